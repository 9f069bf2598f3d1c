-- Numbers as bytes, the highest first.
-- Assumes nothing.
use Rattle.std.specs.Prelude.{ℕ, List}
pub use Rattle.std.specs.Int.{bytes_high_first}
use Rattle.std.specs.Int.Digits.{number_from_digits}

-- the number that bytes write
abbrev pub number_of : List ℕ → ℕ
number_of bs = number_from_digits 256 bs
