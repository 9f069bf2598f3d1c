-- The bits of a number: a word is the sum of its bits, and bit j of an XOR, an AND or a complement is that of the bits.
-- Assumes nothing.
use Rattle.std.proofs.Common.{◌≡◌, ℕ, zero, suc, ◌+◌, ◌-◌, ◌*◌, ◌/◌, ◌%◌, ◌^◌, ◌<◌, ◌≤◌, sym, refl, ap, ◌∙◌, ap₂, mul-le-mul_right, mod-eq_of_lt, add_comm, pow-suc, add-one, one-add, arith}
use Rattle.std.proofs.Math.Nat.{mod-one}
use Rattle.std.specs.Int.Bits.{bit_and, bit_xor, and_shr, and_mod, xor_shr, xor_mod}
use Rattle.std.proofs.Math.Pow.{mod-pow-add}
use Rattle.std.proofs.lemmas.Nat.Bits.{bit_at_lowest, bit_at-suc}
use Rattle.permutation.specs.Bits.{bit, gather}

-- ---- a number from its bits

pub gather_more : (f : ℕ → ℕ) (n : ℕ) → gather f (n + 1) ≡ gather f n + f n * 2 ^ n
unfolding gather
gather_more f n = rw add-one

pub gather_ext : (f g : ℕ → ℕ) (n : ℕ) → ((j : ℕ) → j < n → f j ≡ g j) → gather f n ≡ gather g n
unfolding gather
gather_ext f g zero e = refl
gather_ext f g (suc n) e =
    ap₂ (λ (x y : ℕ). x + y * 2 ^ n) (gather_ext f g n (λ j h. e j (omega arith))) (e n (omega arith))

pub gather_lt : (f : ℕ → ℕ) (n : ℕ) → ((j : ℕ) → f j < 2) → gather f n < 2 ^ n
unfolding gather
gather_lt f zero b = omega arith
gather_lt f (suc n) b =
    let le-one : f n ≤ 1 = omega (arith, b n) in
    rw (pow-suc 2 n)
    (omega (arith, gather_lt f n b, mul-le-mul_right (2 ^ n) le-one))

gather_bits : (w n : ℕ) → gather (bit w) n ≡ w % 2 ^ n
unfolding gather
gather_bits w zero = sym (mod-one w)
gather_bits w (suc n) =
    ap (λ (x : ℕ). x + bit w n * 2 ^ n) (gather_bits w n) ∙ add_comm (w % 2 ^ n) (bit w n * 2 ^ n)
    ∙ sym (mod-pow-add w 1 n) ∙ ap (λ (k : ℕ). w % 2 ^ k) (one-add n)

-- a number below 2 ^ n is told by its n bits
pub from_bits : (w n : ℕ) (f : ℕ → ℕ) → w < 2 ^ n → ((j : ℕ) → j < n → bit w j ≡ f j) → w ≡ gather f n
from_bits w n f h e = sym (mod-eq_of_lt h) ∙ sym (gather_bits w n) ∙ gather_ext (bit w) f n e

-- ---- the bits of a result

pub bit_of_xor : (a b j : ℕ) → bit (bit_xor a b) j ≡ bit_xor (bit a j) (bit b j)
bit_of_xor a b j = ap (λ (x : ℕ). x % 2) (xor_shr a b j) ∙ xor_mod (a / 2 ^ j) (b / 2 ^ j) 1

pub bit_of_and : (a b j : ℕ) → bit (bit_and a b) j ≡ bit_and (bit a j) (bit b j)
bit_of_and a b j = ap (λ (x : ℕ). x % 2) (and_shr a b j) ∙ and_mod (a / 2 ^ j) (b / 2 ^ j) 1

pub bit_not : (w j n : ℕ) → w < 2 ^ n → j < n → bit (2 ^ n - 1 - w) j ≡ 1 - bit w j
bit_not w j zero h l = absurd (omega arith)
bit_not w zero (suc n) h l = omega (arith, bit_at_lowest (2 ^ suc n - 1 - w), bit_at_lowest w, pow-suc 2 n)
bit_not w (suc j) (suc n) h l =
    let half : (2 ^ suc n - 1 - w) / 2 ≡ 2 ^ n - 1 - w / 2 = omega (arith, pow-suc 2 n) in
    bit_at-suc _ j ∙ ap (λ (x : ℕ). bit x j) half ∙ bit_not (w / 2) j n (omega (arith, pow-suc 2 n)) (omega arith)
    ∙ ap (λ (x : ℕ). 1 - x) (sym (bit_at-suc w j))
