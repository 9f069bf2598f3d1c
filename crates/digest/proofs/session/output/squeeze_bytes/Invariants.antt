use Rattle.std.proofs.Common.{◌≡◌, take}
use Rattle.engine.specs.Of.{meaning}
use Rattle.sponge.specs.Steps.{bytes_next}
use Rattle.digest.proofs.Giving.{Given}
use Rattle.digest.proofs.session.output.squeeze_bytes.Given as goal

abbrev pub invariant-loop-i : goal.invariant-loop-i
invariant-loop-i g l =
    Given (meaning g.E.Engine l.initial.engine) l.given l.i (meaning g.E.Engine l.engine)
    × (take l.i l.out ≡ bytes_next l.i (g.E.Engine.words l.initial.engine) l.given)
