-- Why a digit that is refused refuses the whole text, and why a number that was printed is read again.
-- Assumes nothing.
use Rattle.std.proofs.Common.{◌≡◌, ℕ, zero, suc, ◌+◌, ◌*◌, ◌^◌, ◌<◌, ◌≤◌, List, [], ◌∷◌, length, get_or, take, Some, None, decimal, Option, sym, ap, ◌∙◌, subst, arith}
use Rattle.std.proofs.lemmas.Fmt.{decimal_is_IsNumeral}
use Rattle.std.proofs.lemmas.Int.Digits.{digits_more, digits_value_more}
use Rattle.std.proofs.lemmas.Str.Parse.{digits_value-take-le}
use Rattle.std.specs.Str.Parse.{AllDigits, IsNumeral, digits_value}
use Rattle.std.specs.Char.{digit_value}
use Rattle.hexadecimal.specs.Numbers.{OneMore, ReadsDigits}

-- each digit of a text of digits is below the radix
digit_of : (radix : ℕ) (ds : List ℕ) (i : ℕ) → AllDigits radix ds → i < length ds → digit_value (get_or ds i 0) < radix
digit_of radix [] i d h = omega arith
digit_of radix (c ∷ cs) zero d h = d.0
digit_of radix (c ∷ cs) (suc i) d h = digit_of radix cs i d.1 (omega arith)

-- a digit that is refused after the first i refuses the text
pub read_refused : (radix : ℕ) (ds : List ℕ) (i n : ℕ) → 1 ≤ radix → i < length ds → n ≡ digits_value radix (take i ds)
    → OneMore radix n (get_or ds i 0) None → ReadsDigits radix ds None
read_refused radix ds i n some h so_far no_more numeral small =
    let more : digits_value radix (take (i + 1) ds) ≡ n * radix + digit_value (get_or ds i 0) =
    digits_value_more radix ds i h ∙ ap (λ (x : ℕ). x * radix + digit_value (get_or ds i 0)) (sym so_far)
    in
    no_more (digit_of radix ds i numeral.1 h) (omega (arith, more, digits_value-take-le radix ds (i + 1) some))

-- one digit more, taken or refused
pub ruleset reading = (digits_more, digits_value_more, read_refused)

-- ---- the mark `0x`

-- the letter x is no decimal digit
no_mark : (cs : List ℕ) → AllDigits 10 cs → get_or cs 1 0 ≡ 120 → ⊥
no_mark [] d e = omega arith
no_mark (c ∷ []) d e = omega arith
no_mark (c ∷ (x ∷ cs)) d e = let low : digit_value 120 < 10 = subst (λ (y : ℕ). digit_value y < 10) e d.1.0 in omega arith

read_back : (cs : List ℕ) (r : Option ℕ) (n : ℕ) → n < 2 ^ 64 → IsNumeral 10 cs → digits_value 10 cs ≡ n → ReadsDigits 10 cs r → r ≡ Some n
read_back cs (Some m) n small numeral e reads = ap Some (reads.2 ∙ e)
read_back cs None n small numeral e reads = absurd (reads numeral (omega (arith, e)))

-- what was printed in decimal has no mark
pub unmarked : (cs : List ℕ) (n : ℕ) → n < 2 ^ 64 → cs ≡ decimal n → get_or cs 1 0 ≡ 120 → ⊥
unmarked cs n small e = no_mark cs (subst (AllDigits 10) (sym e) (decimal_is_IsNumeral n small).0.1)

-- and is read again
pub printed_read : (cs : List ℕ) (r : Option ℕ) (n : ℕ) → n < 2 ^ 64 → cs ≡ decimal n → ReadsDigits 10 cs r → r ≡ Some n
printed_read cs r n small e =
    let reads : IsNumeral 10 (decimal n) × (digits_value 10 (decimal n) ≡ n) = decimal_is_IsNumeral n small in
    read_back cs r n small (subst (IsNumeral 10) (sym e) reads.0) (ap (digits_value 10) e ∙ reads.1)

pub ruleset printing = (unmarked, printed_read)
