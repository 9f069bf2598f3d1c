-- Words and their bytes, lowest first.
-- Assumes nothing.
use Rattle.std.specs.Prelude.{List, ℕ, take}
use Rattle.std.specs.Simd.Lanes.{digits_l, number_l}

-- the word that the first eight bytes make
unfoldable pub word : List ℕ → ℕ
word bs = number_l 256 (take 8 bs)

-- the eight bytes of a word
unfoldable pub bytes_of : ℕ → List ℕ
bytes_of w = digits_l 256 8 w
