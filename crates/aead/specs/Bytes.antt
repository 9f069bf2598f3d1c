-- Bytes in blocks of 16, their padding, and bytes XORed.
-- Assumes nothing.
use Rattle.std.specs.Prelude.{ℕ, ◌*◌, Bool, true, false, ◌&&◌, List, [], ◌∷◌, ◌++◌, take, drop, replicate, ◌==◌, bit_xor}
use Rattle.std.specs.Simd.Lanes.{zip2}
pub use Rattle.suite.specs.Words.{bytes_of, word}

-- bytes XORed one by one, as far as both reach
unfoldable pub xored : List ℕ → List ℕ → List ℕ
xored xs ys = zip2 bit_xor xs ys

-- bytes, then one byte 0x01, then zeros enough to fill a block
unfoldable pub padded : List ℕ → List ℕ
padded bs = bs ++ 1 ∷ replicate 15 0

-- block i: a whole one as it is, the rest, perhaps empty, padded by 0x01 and then zeros
unfoldable pub block : List ℕ → ℕ → List ℕ
block bs i = take 16 (drop (16 * i) (padded bs))

-- block i without padding
unfoldable pub part : List ℕ → ℕ → List ℕ
part bs i = take 16 (drop (16 * i) bs)

-- whether two lists of bytes are the same
abbrev pub same : List ℕ → List ℕ → Bool
same [] [] = true
same [] (y ∷ ys) = false
same (x ∷ xs) [] = false
same (x ∷ xs) (y ∷ ys) = x == y && same xs ys
