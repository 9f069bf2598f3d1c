use Rattle.std.proofs.Common.{◌≡◌, ◌^◌, ◌<◌, take}
use Rattle.std.specs.Str.Parse.{AllDigits, digits_value}
use Rattle.hexadecimal.proofs.number.parse_digits.Given as goal

abbrev pub invariant-loop-digit : goal.invariant-loop-digit
invariant-loop-digit l =
    (l.number ≡ digits_value l.radix (take l.digit-index l.digits)) × AllDigits l.radix (take l.digit-index l.digits)
    × (l.number < 2 ^ 64)
