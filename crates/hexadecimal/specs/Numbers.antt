-- Numbers as text: decimal digits, or `0x` and hexadecimal digits.
-- Assumes nothing.
use Rattle.std.specs.Prelude.{◌≡◌, ℕ, ◌+◌, ◌*◌, ◌^◌, ◌<◌, Bool, cond, ◌&&◌, List, drop, Some, None, decimal, Option, ◌==◌, slice_index}
use Rattle.std.specs.Str.Parse.{IsNumeral, digits_value}
use Rattle.std.specs.Char.{digit_value}

-- the answer is the value of the digits just where there are digits and nothing else, and the value is below 2 ^ 64
abbrev pub ReadsDigits : ℕ → List ℕ → Option ℕ → Type 0
ReadsDigits radix ds (Some n) = IsNumeral radix ds × (n < 2 ^ 64) × (n ≡ digits_value radix ds)
ReadsDigits radix ds None = IsNumeral radix ds → digits_value radix ds < 2 ^ 64 → ⊥

-- the same of one digit more after a number
abbrev pub OneMore : ℕ → ℕ → ℕ → Option ℕ → Type 0
OneMore radix n c (Some m) = (digit_value c < radix) × (m < 2 ^ 64) × (m ≡ n * radix + digit_value c)
OneMore radix n c None = digit_value c < radix → n * radix + digit_value c < 2 ^ 64 → ⊥

-- the text begins with `0x`
abbrev pub marked : List ℕ → Bool
marked cs = slice_index cs 0 == 48 && slice_index cs 1 == 120

abbrev pub Parsed : List ℕ → Option ℕ → Type 0
Parsed cs r = cond (marked cs) (ReadsDigits 16 (drop 2 cs) r) (ReadsDigits 10 cs r)

-- a number that was printed in decimal is read again
abbrev pub PrintedIsRead : List ℕ → Option ℕ → Type 0
PrintedIsRead cs r = (n : ℕ) → n < 2 ^ 64 → cs ≡ decimal n → r ≡ Some n
