-- Bits of a number: reading one, gathering a number from its bits, rotation.
-- Assumes nothing.
use Rattle.std.specs.Prelude.{◌≡◌, ℕ, zero, suc, ◌+◌, ◌-◌, ◌*◌, ◌/◌, ◌%◌, ◌^◌, ◌<◌}

-- bit j of a number
abbrev pub bit : ℕ → ℕ → ℕ
bit w j = w / 2 ^ j % 2

-- the number whose bit j is f j, for each j below n
unfoldable pub gather : (ℕ → ℕ) → ℕ → ℕ
gather f zero = 0
gather f (suc n) = gather f n + f n * 2 ^ n

-- a number of n bits rotated right by k
abbrev pub rotated : ℕ → ℕ → ℕ → ℕ
rotated n w k = w / 2 ^ k + w % 2 ^ k * 2 ^ (n - k)

-- rotated right by k, a number has at place j the bit that was at place j + k, counted round the width
abbrev pub RotationMovesBits : Type 0
RotationMovesBits = (n w k j : ℕ) → w < 2 ^ n → k < n → j < n → bit (rotated n w k) j ≡ bit w ((j + k) % n)
