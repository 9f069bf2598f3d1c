-- The S-box's equations (7) of the standard, as terms that have a value on single bits and on whole words.
-- Assumes nothing.
use Rattle.std.specs.Prelude.{◌≡◌, ℕ, ◌-◌, ◌^◌, ◌<◌, List, [], ◌∷◌, bit_and, bit_xor, slice_index}
use Rattle.permutation.specs.Bits.{bit}
use Rattle.permutation.specs.Permutation.{sbox}

infixl 6 ◌⊕◌
infixl 7 ◌⊙◌
-- a word by its place, XOR, AND and complement
pub data Term : Type 0 where
  word : ℕ → Term
  ◌⊕◌ : Term → Term → Term
  ◌⊙◌ : Term → Term → Term
  not : Term → Term

-- a term's value at the words `ws`, where `ones` has every bit set
abbrev pub value : ℕ → Term → List ℕ → ℕ
value ones (word i) ws = slice_index ws i
value ones (a ⊕ b) ws = bit_xor (value ones a ws) (value ones b ws)
value ones (a ⊙ b) ws = bit_and (value ones a ws) (value ones b ws)
value ones (not a) ws = ones - value ones a ws

abbrev x0 : Term
x0 = word 0

abbrev x1 : Term
x1 = word 1

abbrev x2 : Term
x2 = word 2

abbrev x3 : Term
x3 = word 3

abbrev x4 : Term
x4 = word 4

-- the five equations
abbrev pub y0 : Term
y0 = x4 ⊙ x1 ⊕ x3 ⊕ x2 ⊙ x1 ⊕ x2 ⊕ x1 ⊙ x0 ⊕ x1 ⊕ x0

abbrev pub y1 : Term
y1 = x4 ⊕ x3 ⊙ x2 ⊕ x3 ⊙ x1 ⊕ x3 ⊕ x2 ⊙ x1 ⊕ x2 ⊕ x1 ⊕ x0

abbrev pub y2 : Term
y2 = not (x4 ⊙ x3 ⊕ x4 ⊕ x2 ⊕ x1)

abbrev pub y3 : Term
y3 = x4 ⊙ x0 ⊕ x4 ⊕ x3 ⊙ x0 ⊕ x3 ⊕ x2 ⊕ x1 ⊕ x0

abbrev pub y4 : Term
y4 = x4 ⊙ x1 ⊕ x4 ⊕ x3 ⊕ x1 ⊙ x0 ⊕ x1

-- the five words of a state, written out
abbrev pub five_words : List ℕ → List ℕ
five_words s = slice_index s 0 ∷ slice_index s 1 ∷ slice_index s 2 ∷ slice_index s 3 ∷ slice_index s 4 ∷ []

-- the equations on whole words
abbrev pub evaluated : List ℕ → List ℕ
evaluated s =
    let at : Term → ℕ = λ t. value (2 ^ 64 - 1) t (five_words s) in
    at y0 ∷ at y1 ∷ at y2 ∷ at y3 ∷ at y4 ∷ []

-- the five bits of column k, highest first
abbrev pub column_bits : ℕ → List ℕ
column_bits k = bit k 4 ∷ bit k 3 ∷ bit k 2 ∷ bit k 1 ∷ bit k 0 ∷ []

-- the term gives bit 4 − i of each entry of the S-box
abbrev pub Gives : ℕ → Term → Type 0
Gives i t = (k : ℕ) → k < 32 → value 1 t (column_bits k) ≡ bit (slice_index sbox k) (4 - i)

-- the S-box agrees with the equations at all 32 entries
pub record SboxAgrees : Type 0 where
  pub first : Gives 0 y0
  pub second : Gives 1 y1
  pub third : Gives 2 y2
  pub fourth : Gives 3 y3
  pub fifth : Gives 4 y4
