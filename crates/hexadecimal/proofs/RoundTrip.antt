-- Decoding what was encoded gives the bytes back.
-- Assumes nothing.
use Rattle.std.proofs.Common.{◌≡◌, ℕ, zero, suc, ◌+◌, ◌*◌, ◌/◌, ◌%◌, ◌<◌, true, leb, List, [], ◌∷◌, ◌++◌, map, length, get_or, drop, Ok, Result, refl, ap, ◌∙◌, ap₂, arith}
use Rattle.std.proofs.lemmas.Bool.{and_from, cond-true, eq-eqb, le-leb}
use Rattle.std.proofs.lemmas.Str.{digit_value-digit_char}
use Rattle.std.specs.List.{list_all}
use Rattle.std.specs.Simd.{first_chunks}
use Rattle.std.specs.Char.{digit_char, digit_value, is_ascii_hexdigit}
use Rattle.hexadecimal.specs.declared.fault.HexFault.{HexFault}
use Rattle.hexadecimal.proofs.Digits.{hexdigit_of}
use Rattle.hexadecimal.specs.Hexadecimal.{GivesBack, byte_of, encoded, is_hex}

abbrev Bytes : List ℕ → Type 0
Bytes bs = (k : ℕ) → k < length bs → get_or bs k 0 < 256

count : (bs : List ℕ) → length (encoded bs) ≡ 2 * length bs
count [] = refl
count (b ∷ bs) = omega (arith, count bs)

high : (b : ℕ) → b < 256 → digit_value (digit_char (b / 16)) ≡ b / 16
high b h = digit_value-digit_char (b / 16) (omega arith)

low : (b : ℕ) → digit_value (digit_char (b % 16)) ≡ b % 16
low b = digit_value-digit_char (b % 16) (omega arith)

rest : (b : ℕ) (bs : List ℕ) → Bytes (b ∷ bs) → Bytes bs
rest b bs fit k h = fit (suc k) (omega arith)

pairs_back : (bs : List ℕ) → Bytes bs → map byte_of (first_chunks 2 (length bs) (encoded bs)) ≡ bs
pairs_back [] fit = refl
pairs_back (b ∷ bs) fit =
    let small : b < 256 = fit zero (omega arith) in
    let byte : digit_value (digit_char (b / 16)) * 16 + digit_value (digit_char (b % 16)) ≡ b = omega (arith, high b small, low b) in
    ap₂ (λ (x : ℕ) (xs : List ℕ). x ∷ xs) byte (pairs_back bs (rest b bs fit))

digits : (bs : List ℕ) → Bytes bs → list_all is_ascii_hexdigit (encoded bs) ≡ true
digits [] fit = refl
digits (b ∷ bs) fit =
    let small : b < 256 = fit zero (omega arith) in
    and_from _ _ (hexdigit_of (b / 16) (omega arith)) (and_from _ _ (hexdigit_of (b % 16) (omega arith)) (digits bs (rest b bs fit)))

hex : (bs : List ℕ) → Bytes bs → is_hex (encoded bs) ≡ true
hex bs fit = and_from _ _ (eq-eqb (length (encoded bs) % 2) 0 (omega (arith, count bs))) (digits bs fit)

-- k bytes, written to the front of the output
abbrev taken : List ℕ → ℕ → List ℕ → Result ℕ HexFault × List ℕ
taken out k xs = (Ok k, xs ++ drop k out)

pub gives_back : GivesBack
gives_back bs out fit room =
    let n : length (encoded bs) / 2 ≡ length bs = omega (arith, count bs) in
    let fits : leb (length (encoded bs) / 2) (length out) ≡ true = le-leb (length (encoded bs) / 2) (length out) (omega (arith, n)) in
    cond-true (is_hex (encoded bs)) _ _ (hex bs fit)
    ∙ cond-true (leb (length (encoded bs) / 2) (length out)) _ _ fits
    ∙ ap₂ (taken out) n (ap (λ (k : ℕ). map byte_of (first_chunks 2 k (encoded bs))) n ∙ pairs_back bs fit)
