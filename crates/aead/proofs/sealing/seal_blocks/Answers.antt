use Rattle.std.proofs.Common.{arith}
use Rattle.aead.proofs.Blocks.{length_covered, written}
use Rattle.aead.proofs.sealing.seal_blocks.Goals as goal

pub loop-i-preserved : goal.loop-i-preserved
loop-i-preserved g c =
    record {
      runs = grind arith;
      had = grind arith;
      written = grind (arith, length_covered, written);
    }
