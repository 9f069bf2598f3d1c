-- Setting the columns of five words one by one gathers the bits of each word.
-- Assumes nothing.
use Rattle.std.proofs.Common.{◌≡◌, ℕ, ◌+◌, ◌*◌, ◌^◌, List, [], ◌∷◌, get_or, sym, refl, ◌∙◌, add_comm, arith}
use Rattle.std.specs.Int.Bits.{bit_or, or_shifted_r}
use Rattle.permutation.specs.Bits.{gather}
use Rattle.permutation.specs.OneColumn.{gathered, with_column}
use Rattle.permutation.specs.Permutation.{sbox, column, replaced, replacement, substitute}
use Rattle.permutation.proofs.Bits.{gather_lt, gather_more}

pub gathered_none : (s : List ℕ) → 0 ∷ 0 ∷ 0 ∷ 0 ∷ 0 ∷ [] ≡ gathered s 0
unfolding gather gathered
gathered_none s = refl

one_more : (s : List ℕ) (i n : ℕ)
    → bit_or (gather (replacement s i) n) (replacement s i n * 2 ^ n) ≡ gather (replacement s i) (n + 1)
one_more s i n =
    or_shifted_r (replacement s i n) n (gather (replacement s i) n)
    (gather_lt (replacement s i) n (λ j. omega arith))
    ∙ add_comm (replacement s i n * 2 ^ n) (gather (replacement s i) n) ∙ sym (gather_more (replacement s i) n)

pub gathered_more : (s y z : List ℕ) (n : ℕ) → y ≡ gathered s n → z ≡ with_column y n (get_or sbox (column s n) 0) → z ≡ gathered s (n + 1)
unfolding gathered
gathered_more s y z n e f = cc (one_more s 0 n, one_more s 1 n, one_more s 2 n, one_more s 3 n, one_more s 4 n)

pub gathered_all : (s : List ℕ) → gathered s 64 ≡ substitute s
unfolding gathered replaced
gathered_all s = refl
