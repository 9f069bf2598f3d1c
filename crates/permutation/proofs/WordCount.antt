-- A run keeps the number of words.
-- Assumes nothing.
use Rattle.std.proofs.Common.{◌≡◌, ℕ, ◌-◌, List, [], ◌∷◌, length, drop, fold, refl}
use Rattle.permutation.specs.Permutation.{constants, permuted, round}

length_round : (s : List ℕ) (c : ℕ) → length (round s c) ≡ 5
unfolding round
length_round s c = refl

length_rounds : (s : List ℕ) (cs : List ℕ) → length s ≡ 5 → length (fold round s cs) ≡ 5
length_rounds s [] e = e
length_rounds s (c ∷ cs) e = length_rounds (round s c) cs (length_round s c)

pub length_permuted : (r : ℕ) (s : List ℕ) → length s ≡ 5 → length (permuted r s) ≡ 5
unfolding permuted
length_permuted r s e = length_rounds s (drop (16 - r) constants) e
