-- Bytes as hexadecimal digits: two for each byte, the high one first.
-- Assumes nothing.
use Rattle.std.specs.Prelude.{◌≡◌, ℕ, ◌+◌, ◌*◌, ◌/◌, ◌%◌, ◌<◌, ◌≤◌, Bool, cond, ◌&&◌, List, [], ◌∷◌, ◌++◌, map, length, drop, Ok, Err, Result, ◌==◌, nat_le, slice_index}
use Rattle.std.specs.List.{flat_map, list_all}
use Rattle.std.specs.Simd.{first_chunks}
use Rattle.std.specs.Char.{digit_char, digit_value, is_ascii_hexdigit}
use Rattle.hexadecimal.specs.declared.fault.HexFault.{HexFault}
use Rattle.hexadecimal.specs.declared.fault.HexFault.TheVariants.{NotHex, OutputTooShort}

-- ---- bytes to text

-- the two digits of a byte, in lower case
abbrev pub digits_of : ℕ → List ℕ
digits_of b = digit_char (b / 16) ∷ digit_char (b % 16) ∷ []

abbrev pub encoded : List ℕ → List ℕ
encoded bs = flat_map digits_of bs

-- the text, written to the front of an output that has room for it
abbrev pub encode : List ℕ → List ℕ → Result ℕ HexFault × List ℕ
encode bs out =
    cond (nat_le (length bs) (length out / 2))
    (Ok (length bs * 2), encoded bs ++ drop (length bs * 2) out)
    (Err OutputTooShort, out)

-- ---- text to bytes

-- an even number of digits, in either case
abbrev pub is_hex : List ℕ → Bool
is_hex cs = length cs % 2 == 0 && list_all is_ascii_hexdigit cs

-- the byte of two digits
abbrev pub byte_of : List ℕ → ℕ
byte_of pair = digit_value (slice_index pair 0) * 16 + digit_value (slice_index pair 1)

abbrev pub bytes_of : List ℕ → List ℕ
bytes_of cs = map byte_of (first_chunks 2 (length cs / 2) cs)

-- the bytes, written to the front of an output that has room for them
abbrev pub decode : List ℕ → List ℕ → Result ℕ HexFault × List ℕ
decode cs out =
    cond (is_hex cs)
    (cond (nat_le (length cs / 2) (length out))
    (Ok (length cs / 2), bytes_of cs ++ drop (length cs / 2) out)
    (Err OutputTooShort, out))
    (Err NotHex, out)

-- ---- the law of both

-- decoding what was encoded gives the bytes back, for every list of bytes and every output with room
abbrev pub GivesBack : Type 0
GivesBack =
    (bs out : List ℕ) → ((k : ℕ) → k < length bs → slice_index bs k < 256) → length bs ≤ length out
    → decode (encoded bs) out ≡ (Ok (length bs), bs ++ drop (length bs) out)
