use Rattle.std.proofs.Common.{◌≡◌, true}
use Rattle.engine.specs.Of.{meaning}
use Rattle.engine.specs.Runs.{after, has}
use Rattle.aead.specs.Blocks.{after_blocks}
use Rattle.aead.specs.Data.{joined}
use Rattle.aead.proofs.steps.absorb_blocks.Given as goal

abbrev pub invariant-loop-index : goal.invariant-loop-index
invariant-loop-index g l =
    (meaning g.E.Engine l.engine
    ≡ after l.index (after_blocks l.index (g.E.Engine.words l.initial.engine) (joined l.parts)) (meaning g.E.Engine l.initial.engine))
    × (has l.index (meaning g.E.Engine l.initial.engine) ≡ true)
