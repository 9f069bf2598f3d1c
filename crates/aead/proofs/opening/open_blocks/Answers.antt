use Rattle.std.proofs.Common.{arith}
use Rattle.std.proofs.lemmas.List.{drop_at}
use Rattle.aead.specs.Blocks.{uncovered}
use Rattle.aead.specs.Bytes.{part}
use Rattle.aead.proofs.Blocks.{written}
use Rattle.aead.proofs.Inverse.{length_opened_whole}
use Rattle.aead.proofs.Opens.{whole_block}
use Rattle.aead.proofs.Xor.{length_xored}
use Rattle.aead.proofs.opening.open_blocks.Goals as goal

pub loop-i-preserved : goal.loop-i-preserved
unfolding uncovered part
loop-i-preserved g c =
    record {
      runs = grind (arith, drop_at, whole_block, length_opened_whole, length_xored);
      had = grind arith;
      written = grind (arith, drop_at, length_opened_whole, written);
    }
