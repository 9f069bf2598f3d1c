-- A term that gives place i of the S-box's entries gives, on whole words, word i with every column replaced.
-- Assumes nothing.
use Rattle.std.proofs.Common.{◌≡◌, ℕ, zero, suc, ◌-◌, ◌^◌, ◌<◌, Bool, true, eqb, List, get_or, refl, ap, ◌∙◌, arith}
use Rattle.std.proofs.lemmas.Bool.{agree_below, agree_below_at, eqb-true}
use Rattle.permutation.specs.Equations.{Term, value, y0, y1, y2, y3, y4, column_bits, Gives, SboxAgrees, evaluated, five_words}
use Rattle.permutation.specs.Bits.{bit}
use Rattle.permutation.specs.Permutation.{sbox, column, replacement, replaced, substitute}
use Rattle.permutation.proofs.Bits.{from_bits}
use Rattle.permutation.proofs.Bitwise.{bits, value_lt, bit_value}

-- ---- the table against a term

abbrev pub gives : ℕ → Term → ℕ → Bool
gives i t k = eqb (value 1 t (column_bits k)) (bit (get_or sbox k 0) (4 - i))

-- antt computes the test at each entry
pub computed : (i : ℕ) (t : Term) → agree_below (gives i t) (λ _. true) 32 ≡ true → Gives i t
computed i t ok k h = eqb-true _ _ (agree_below_at (gives i t) (λ _. true) 32 k ok h)

pub sbox_agrees : SboxAgrees
sbox_agrees =
    record {
      first = computed 0 y0 refl;
      second = computed 1 y1 refl;
      third = computed 2 y2 refl;
      fourth = computed 3 y3 refl;
      fifth = computed 4 y4 refl;
    }

-- ---- the columns of five words

-- each word of the state has 64 bits
abbrev pub Fit : List ℕ → Type 0
Fit s =
    (get_or s 0 0 < 2 ^ 64) × (get_or s 1 0 < 2 ^ 64) × (get_or s 2 0 < 2 ^ 64) × (get_or s 3 0 < 2 ^ 64) × (get_or s 4 0 < 2 ^ 64)

fits : (s : List ℕ) → Fit s → (i : ℕ) → get_or (five_words s) i 0 < 2 ^ 64
fits s h zero = h.0
fits s h (suc zero) = h.1
fits s h (suc (suc zero)) = h.2
fits s h (suc (suc (suc zero))) = h.3
fits s h (suc (suc (suc (suc zero)))) = h.4
fits s h (suc (suc (suc (suc (suc i))))) = omega arith

pub term_replaces : (i : ℕ) (t : Term) → Gives i t → (s : List ℕ) → Fit s → value (2 ^ 64 - 1) t (five_words s) ≡ replaced s i
unfolding replaced
term_replaces i t g s h =
    from_bits (value (2 ^ 64 - 1) t (five_words s)) 64 (replacement s i) (value_lt 64 (five_words s) (fits s h) t)
    (λ j l.
    let e : bits (five_words s) j ≡ column_bits (column s j) = grind arith in
    bit_value 64 (five_words s) (fits s h) t j l ∙ ap (value 1 t) e ∙ g (column s j) (omega arith))

-- the equations on whole words replace every column
pub evaluated_substitutes : (y s : List ℕ) → Fit s → y ≡ evaluated s → y ≡ substitute s
evaluated_substitutes y s h e =
    cc (
      term_replaces 0 y0 sbox_agrees.first s h,
      term_replaces 1 y1 sbox_agrees.second s h,
      term_replaces 2 y2 sbox_agrees.third s h,
      term_replaces 3 y3 sbox_agrees.fourth s h,
      term_replaces 4 y4 sbox_agrees.fifth s h,
    )
