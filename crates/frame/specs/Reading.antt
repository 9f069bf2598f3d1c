-- What reading a frame answers.
-- Assumes nothing.
use Rattle.std.specs.Prelude.{ℕ, ◌+◌, ◌-◌, Bool, ◌&&◌, if◌then◌else◌, List, length, take, drop, ◌==◌, nat_le, nat_lt, not, slice_index, Ok, Err, Result}
use Rattle.frame.specs.Bytes.{number_of}
use Rattle.frame.specs.declared.fault.LinkFault.{LinkFault}
use Rattle.frame.specs.declared.fault.LinkFault.TheVariants.{FrameTooShort, MarkMissing, WrongLengths}
use Rattle.frame.specs.declared.reading.Parts as code
use Rattle.frame.specs.declared.trailer.Fields.{Fields}

-- a frame's parts and what its trailer says
pub record Parts : Type 0 where
  pub header : List ℕ
  pub ciphertext : List ℕ
  pub tag : List ℕ
  -- ciphertext and tag
  pub sealed : List ℕ
  pub trailer : List ℕ
  pub fields : Fields

-- the last sixteen bytes
abbrev pub trailer_in : List ℕ → List ℕ
trailer_in frame = drop (length frame - 16) frame

-- what a trailer says
abbrev pub fields_in : List ℕ → Fields
fields_in t = record {
  number = number_of (take 6 t);
  station = number_of (take 4 (drop 6 t));
  header = number_of (take 2 (drop 10 t));
  body = number_of (take 2 (drop 12 t));
}

-- a trailer ends in the mark
abbrev pub marked : List ℕ → Bool
marked t = slice_index t 14 == 0xa5 && slice_index t 15 == 0x01

-- the lengths are within the limits, and are those of so many bytes
abbrev pub fitting : Fields → ℕ → Bool
fitting f n = nat_le f.header 256 && nat_le f.body 1200 && f.header + f.body + 32 == n

-- the first h bytes, the next b, the sixteen before the trailer, the last sixteen
abbrev pub parts_by : Fields → List ℕ → Parts
parts_by f frame = record {
  header = take f.header frame;
  ciphertext = take f.body (drop f.header frame);
  tag = take 16 (drop (length frame - 32) frame);
  sealed = take (f.body + 16) (drop f.header frame);
  trailer = trailer_in frame;
  fields = f;
}

-- 32 bytes? the mark? the lengths?
abbrev pub reading : List ℕ → Result Parts LinkFault
reading frame =
    if nat_lt (length frame) 32 then Err FrameTooShort
    else if not (marked (trailer_in frame)) then Err MarkMissing
    else if not (fitting (fields_in (trailer_in frame)) (length frame)) then Err WrongLengths
    else Ok (parts_by (fields_in (trailer_in frame)) frame)

-- the parts that the code hands out
abbrev pub shown : code.Parts → Parts
shown p = record {
  header = p.header.now;
  ciphertext = p.ciphertext.now;
  tag = p.tag.now;
  sealed = p.sealed.now;
  trailer = p.trailer.now;
  fields = p.fields;
}
