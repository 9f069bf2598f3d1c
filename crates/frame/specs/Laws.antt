-- What holds of frames: reading undoes framing, every byte of a frame that reads is claimed, frames are told apart by what they carry.
-- Assumes nothing.
use Rattle.std.specs.Prelude.{◌≡◌, ◌↔◌, ℕ, ◌^◌, ◌<◌, ◌≤◌, List, ◌++◌, length, take, drop, Ok}
use Rattle.aead.specs.Cipher as aead
use Rattle.aead.specs.Laws.{Bytes}
use Rattle.frame.specs.Frame.{cost, fields_of, frame_length, framed, nonce, sealed_body, trailer}
use Rattle.frame.specs.Reading.{Parts, reading}

-- a station has 32 bits, a number 48
abbrev pub Named : ℕ → ℕ → Type 0
Named station number = (station < 2 ^ 32) × (number < 2 ^ 48)

-- a header and a body within their limits
abbrev pub Within : List ℕ → List ℕ → Type 0
Within header body = (length header ≤ 256) × (length body ≤ 1200)

-- reading a frame gives back what it was made of
abbrev pub FramedReadsBack : Type 0
FramedReadsBack =
    (key header body : List ℕ) (station number : ℕ) → Named station number → Within header body
    → reading (framed key station number header body)
    ≡ Ok (record {
      header = header;
      ciphertext = take (length body) (sealed_body key station number header body);
      tag = drop (length body) (sealed_body key station number header body);
      sealed = sealed_body key station number header body;
      trailer = trailer (fields_of station number header body);
      fields = fields_of station number header body;
    })

-- what a frame that reads is made of
pub record MadeOf (frame : List ℕ) (p : Parts) : Type 0 where
  pub whole : frame ≡ p.header ++ p.ciphertext ++ p.tag ++ trailer p.fields
  pub trailer_is : p.trailer ≡ trailer p.fields
  pub sealed_is : p.sealed ≡ p.ciphertext ++ p.tag
  pub header_length : length p.header ≡ p.fields.header
  pub body_length : length p.ciphertext ≡ p.fields.body
  pub tag_length : length p.tag ≡ 16
  pub header_within : p.fields.header ≤ 256
  pub body_within : p.fields.body ≤ 1200
  pub named : Named p.fields.station p.fields.number

-- a frame reads as these parts exactly where it is made of them, and no other frame reads as these
pub record NoByteUnclaimed : Type 0 where
  pub exactly : (frame : List ℕ) (p : Parts) → Bytes frame → (reading frame ≡ Ok p) ↔ MadeOf frame p
  pub no_other : (frame frame' : List ℕ) (p : Parts) → Bytes frame → Bytes frame' → reading frame ≡ Ok p → reading frame' ≡ Ok p → frame ≡ frame'

-- two frames under one key are equal exactly where stations, numbers, headers and bodies are
pub record FramesToldApart : Type 0 where
  pub exactly : (key header body header' body' : List ℕ) (station number station' number' : ℕ)
      → Named station number → Within header body → Bytes body → Named station' number' → Within header' body' → Bytes body'
      → (framed key station number header body ≡ framed key station' number' header' body')
      ↔ ((station ≡ station') × (number ≡ number') × (header ≡ header') × (body ≡ body'))

-- so are nonces
abbrev pub NoncesToldApart : Type 0
NoncesToldApart =
    (station number station' number' : ℕ) → Named station number → Named station' number'
    → (nonce station number ≡ nonce station' number') ↔ ((station ≡ station') × (number ≡ number'))

-- how long a frame is, and that sealing and opening take the runs of the cipher for header and trailer as associated data
pub record LengthAndCost : Type 0 where
  pub length_is : (key header body : List ℕ) (station number : ℕ)
      → length (framed key station number header body) ≡ frame_length (length header) (length body)
  pub cost_is : (header body : List ℕ) (station number : ℕ)
      → aead.cost (length (header ++ trailer (fields_of station number header body))) (length body) ≡ cost (length header) (length body)
