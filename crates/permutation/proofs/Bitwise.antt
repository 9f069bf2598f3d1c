-- Terms of XOR, AND and complement over words: bit j of a term's value is the term's value at bit j of the words.
-- Assumes nothing.
use Rattle.std.proofs.Common.{◌≡◌, ℕ, ◌-◌, ◌^◌, ◌<◌, List, map, get_or, sym, ap, ◌∙◌, ap₂, arith}
use Rattle.std.proofs.Math.ListN.{get_or-map}
use Rattle.std.proofs.lemmas.Nat.Bits.{bit_at-zero}
use Rattle.std.specs.Int.Bits.{bit_and, bit_xor, and_lt, xor_lt}
use Rattle.permutation.specs.Equations.{Term, word, ◌⊕◌, ◌⊙◌, not, value}
use Rattle.permutation.specs.Bits.{bit}
use Rattle.permutation.proofs.Bits.{bit_of_xor, bit_of_and, bit_not}

-- bit j of each word
abbrev pub bits : List ℕ → ℕ → List ℕ
bits ws j = map (λ w. bit w j) ws

module _ (n : ℕ) (ws : List ℕ) (fit : (i : ℕ) → get_or ws i 0 < 2 ^ n) where
  pub value_lt : (t : Term) → value (2 ^ n - 1) t ws < 2 ^ n
  value_lt (word i) = fit i
  value_lt (a ⊕ b) = xor_lt n _ _ (value_lt a) (value_lt b)
  value_lt (a ⊙ b) = and_lt n _ _ (value_lt a) (value_lt b)
  value_lt (not a) = omega (arith, value_lt a)

  pub bit_value : (t : Term) (j : ℕ) → j < n → bit (value (2 ^ n - 1) t ws) j ≡ value 1 t (bits ws j)
  bit_value (word i) j h = sym (get_or-map (λ w. bit w j) ws i 0) ∙ ap (get_or (bits ws j) i) (bit_at-zero j)
  bit_value (a ⊕ b) j h = bit_of_xor _ _ j ∙ ap₂ bit_xor (bit_value a j h) (bit_value b j h)
  bit_value (a ⊙ b) j h = bit_of_and _ _ j ∙ ap₂ bit_and (bit_value a j h) (bit_value b j h)
  bit_value (not a) j h = bit_not _ j n (value_lt a) h ∙ ap (λ (x : ℕ). 1 - x) (bit_value a j h)
