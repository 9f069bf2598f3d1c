-- Rotation: what `rotate_right` returns is the number rotated right, and where its bits go, at every width.
-- Assumes nothing.
use Rattle.std.proofs.Common.{◌≡◌, ℕ, ◌+◌, ◌-◌, ◌*◌, ◌/◌, ◌%◌, ◌^◌, ◌<◌, ◌≤◌, sym, ap, ◌∙◌, subst, ap₂, ⊎_elim, add-zero, mod-eq_of_lt, add_comm, arith, shr-shr, shr_lt}
use Rattle.std.proofs.Math.Nat.{mul-mod_left, add-mod_right}
use Rattle.std.specs.Int.Bits.{bit_or, or_shifted_r}
use Rattle.std.proofs.Math.Pow.{mod-pow-add, shl-shr}
use Rattle.std.proofs.lemmas.Bool.{cases_lt}
use Rattle.std.proofs.lemmas.Nat.{shr_split}
use Rattle.std.proofs.lemmas.Nat.Bits.{bit_at_cat_high, bit_at_cat_low}
use Rattle.permutation.specs.Bits.{bit, rotated, RotationMovesBits}

-- ---- what the code computes

-- the k low bits, moved to the top of k + m bits
low_to_top : (w k m : ℕ) → w * 2 ^ m % 2 ^ (k + m) ≡ w % 2 ^ k * 2 ^ m
low_to_top w k m =
    mod-pow-add (w * 2 ^ m) k m
    ∙ ap₂ (λ (x y : ℕ). x % 2 ^ k * 2 ^ m + y) (shl-shr w m) (mul-mod_left w (2 ^ m))
    ∙ add-zero (w % 2 ^ k * 2 ^ m)

module _ (n w k : ℕ) (fit : w < 2 ^ n) (some : 0 < k) (below : k < n) where
  amount : k % n ≡ k
  amount = mod-eq_of_lt below

  less : n - k < n
  less = omega arith

  rest : (n - k % n) % n ≡ n - k
  rest = ap (λ (i : ℕ). (n - i) % n) amount ∙ mod-eq_of_lt less

  joins : (m : ℕ) → k + m ≡ n → bit_or (w / 2 ^ k) (w * 2 ^ m % 2 ^ n) ≡ w / 2 ^ k + w % 2 ^ k * 2 ^ m
  joins m e =
      ap (λ (i : ℕ). bit_or (w / 2 ^ k) (w * 2 ^ m % 2 ^ i)) (sym e)
      ∙ ap (bit_or (w / 2 ^ k)) (low_to_top w k m)
      ∙ or_shifted_r (w % 2 ^ k) m (w / 2 ^ k)
      (shr_lt m k (subst (λ (i : ℕ). w < 2 ^ i) (sym (add_comm m k ∙ e)) fit))
      ∙ add_comm (w % 2 ^ k * 2 ^ m) (w / 2 ^ k)

  pub rotate_right : bit_or (w / 2 ^ (k % n)) (w * 2 ^ ((n - k % n) % n) % 2 ^ n) ≡ rotated n w k
  rotate_right =
      ap₂ (λ (i j : ℕ). bit_or (w / 2 ^ i) (w * 2 ^ j % 2 ^ n)) amount rest
      ∙ joins (n - k) (omega arith)

-- ---- where the bits go

-- the bits below k of a remainder by 2 ^ k
pub bit_mod : (x k j : ℕ) → j < k → bit (x % 2 ^ k) j ≡ bit x j
bit_mod x k j h = sym (bit_at_cat_low (x / 2 ^ k) k (x % 2 ^ k) j h) ∙ ap (λ (y : ℕ). bit y j) (shr_split x k)

module _ (w k m : ℕ) (fit : w < 2 ^ (m + k)) where
  abbrev turned : ℕ
  turned = w % 2 ^ k * 2 ^ m + w / 2 ^ k

  turned_below : (j : ℕ) → j < m → bit turned j ≡ bit w ((j + k) % (m + k))
  turned_below j h =
      let lt : j + k < m + k = omega arith in
      bit_at_cat_low (w % 2 ^ k) m (w / 2 ^ k) j h
      ∙ ap (λ (x : ℕ). x % 2) (shr-shr w k j)
      ∙ ap (bit w) (add_comm k j ∙ sym (mod-eq_of_lt lt))

  turned_above : (i : ℕ) → i < k → bit turned (m + i) ≡ bit w ((m + i + k) % (m + k))
  turned_above i h =
      let lt : i < m + k = omega arith in
      let e : m + i + k ≡ i + (m + k) = omega arith in
      bit_at_cat_high (w % 2 ^ k) m (w / 2 ^ k) (m + i) (shr_lt m k fit) (omega arith)
      ∙ ap (bit (w % 2 ^ k)) (let z : m + i - m ≡ i = omega arith in z)
      ∙ bit_mod w k i h
      ∙ ap (bit w) (sym (ap (λ (x : ℕ). x % (m + k)) e ∙ add-mod_right i (m + k) ∙ mod-eq_of_lt lt))

  turned_bit : (j : ℕ) → j < m + k → bit turned j ≡ bit w ((j + k) % (m + k))
  turned_bit j h =
      ⊎_elim (turned_below j)
      (λ (le : m ≤ j).
      let i : (i : ℕ) × (j ≡ m + i) = (j - m, omega arith) in
      let lt : i.0 < k = omega (arith, i.1) in
      subst (λ (x : ℕ). bit turned x ≡ bit w ((x + k) % (m + k))) (sym i.1) (turned_above i.0 lt))
      (cases_lt j m)

pub rotation_moves_bits : RotationMovesBits
rotation_moves_bits n w k j fit below h =
    let e : n ≡ n - k + k = omega arith in
    let lt : j < n - k + k = omega arith in
    ap (λ (x : ℕ). bit x j) (add_comm (w / 2 ^ k) (w % 2 ^ k * 2 ^ (n - k)))
    ∙ turned_bit w k (n - k) (subst (λ (x : ℕ). w < 2 ^ x) e fit) j lt
    ∙ ap (λ (x : ℕ). bit w ((j + k) % x)) (sym e)
