-- The frame: header, ciphertext, tag and trailer.
-- Assumes nothing.
use Rattle.std.specs.Prelude.{ℕ, ◌+◌, ◌/◌, List, [], ◌∷◌, ◌++◌, length, replicate}
use Rattle.aead.specs.Cipher.{sealed}
use Rattle.frame.specs.Bytes.{bytes_high_first}
use Rattle.frame.specs.declared.trailer.Fields.{Fields}

-- number, station, header length, body length, mark
abbrev pub trailer : Fields → List ℕ
trailer f =
    bytes_high_first 6 f.number ++ bytes_high_first 4 f.station ++ bytes_high_first 2 f.header ++ bytes_high_first 2 f.body ++ 0xa5 ∷ 0x01 ∷ []

-- station, six zero bytes, number
abbrev pub nonce : ℕ → ℕ → List ℕ
nonce station number = bytes_high_first 4 station ++ replicate 6 0 ++ bytes_high_first 6 number

-- the fields of the frame of a station, a number, a header and a body
abbrev pub fields_of : ℕ → ℕ → List ℕ → List ℕ → Fields
fields_of station number header body = record { number = number; station = station; header = length header; body = length body }

-- ciphertext and tag; the associated data is the header and then the trailer
abbrev pub sealed_body : List ℕ → ℕ → ℕ → List ℕ → List ℕ → List ℕ
sealed_body key station number header body =
    sealed key (nonce station number) (header ++ trailer (fields_of station number header body)) body

-- the frame that a key, a station, a number, a header and a body yield
abbrev pub framed : List ℕ → ℕ → ℕ → List ℕ → List ℕ → List ℕ
framed key station number header body =
    header ++ sealed_body key station number header body ++ trailer (fields_of station number header body)

-- how long a frame is
abbrev pub frame_length : ℕ → ℕ → ℕ
frame_length header body = header + body + 32

-- the runs that sealing and opening take
abbrev pub cost : ℕ → ℕ → ℕ
cost header body = 4 + header / 16 + body / 16
