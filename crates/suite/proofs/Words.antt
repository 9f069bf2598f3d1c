-- Words and bytes as the standard library states them.
-- Assumes nothing.
use Rattle.std.proofs.Common.{◌≡◌, ℕ, ◌+◌, ◌*◌, ◌/◌, ◌%◌, List, [], ◌∷◌, length, get_or, refl, arith}
use Rattle.std.proofs.Math.Nat.{div-div-eq-div-mul}
use Rattle.suite.specs.Words.{bytes_of, word}

-- what `from_le_bytes` makes of eight bytes
abbrev pub sum8 : (ℕ → ℕ) → ℕ
sum8 f =
    f 0 + f 1 * 256 + f 2 * 65536 + f 3 * 16777216 + f 4 * 4294967296 + f 5 * 1099511627776 + f 6 * 281474976710656
    + f 7 * 72057594037927936

pub word_is : (xs : List ℕ) → word xs ≡ sum8 (λ k. get_or xs k 0)
unfolding word
word_is [] = refl
word_is (a ∷ []) = omega arith
word_is (a ∷ b ∷ []) = omega arith
word_is (a ∷ b ∷ c ∷ []) = omega arith
word_is (a ∷ b ∷ c ∷ d ∷ []) = omega arith
word_is (a ∷ b ∷ c ∷ d ∷ e ∷ []) = omega arith
word_is (a ∷ b ∷ c ∷ d ∷ e ∷ f ∷ []) = omega arith
word_is (a ∷ b ∷ c ∷ d ∷ e ∷ f ∷ g ∷ []) = omega arith
word_is (a ∷ b ∷ c ∷ d ∷ e ∷ f ∷ g ∷ h ∷ xs) = omega arith

-- what `to_le_bytes` makes of a word
pub bytes_are : (w : ℕ) → bytes_of w
    ≡ (w % 256) ∷ (w / 256 % 256) ∷ (w / 65536 % 256) ∷ (w / 16777216 % 256) ∷ (w / 4294967296 % 256) ∷ (w / 1099511627776 % 256)
    ∷ (w / 281474976710656 % 256) ∷ (w / 72057594037927936 % 256) ∷ []
unfolding bytes_of
bytes_are w = simp div-div-eq-div-mul

pub length_bytes_of : (w : ℕ) → length (bytes_of w) ≡ 8
unfolding bytes_of
length_bytes_of w = refl
