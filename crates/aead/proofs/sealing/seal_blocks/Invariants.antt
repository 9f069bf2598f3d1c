use Rattle.std.proofs.Common.{◌≡◌, ◌*◌, true, ◌++◌, drop}
use Rattle.engine.specs.Of.{meaning}
use Rattle.engine.specs.Runs.{after, has}
use Rattle.aead.specs.Blocks.{after_blocks, sealed_blocks}
use Rattle.aead.proofs.sealing.seal_blocks.Given as goal

abbrev pub invariant-loop-i : goal.invariant-loop-i
invariant-loop-i g l =
    let m = meaning g.E.Engine l.initial.engine in
    let text = l.text in
    record {
      runs : meaning g.E.Engine l.engine ≡ after l.i (after_blocks l.i m.words text) m;
      had : has l.i m ≡ true;
      written : l.out ≡ sealed_blocks l.i m.words text ++ drop (16 * l.i) l.initial.out;
    }
