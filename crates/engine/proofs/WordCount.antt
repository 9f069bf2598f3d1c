-- Mixing and running keep the number of words.
-- Assumes nothing.
use Rattle.std.proofs.Common.{◌≡◌, ℕ, List, length, get_or, length-set}
use Rattle.std.specs.Int.Bits.{bit_xor}
pub use Rattle.permutation.proofs.WordCount.{length_permuted}
use Rattle.engine.specs.Meaning.{mixed}

pub length_mixed : (place value : ℕ) (ws : List ℕ) → length (mixed place value ws) ≡ length ws
unfolding mixed
length_mixed place value ws = length-set ws place (bit_xor (get_or ws place 0) value)
