-- The Ascon permutation (SP 800-232, section 3), by columns and table. A state is the list of its five words of 64 bits.
-- Assumes nothing.
use Rattle.std.specs.Prelude.{ℕ, ◌+◌, ◌-◌, ◌*◌, List, [], ◌∷◌, drop, fold, bit_xor, slice_index, slice_set}
use Rattle.permutation.specs.Bits.{bit, gather, rotated}

-- the round constants, Table 5
abbrev pub constants : List ℕ
constants =
    0x3c ∷ 0x2d ∷ 0x1e ∷ 0x0f ∷ 0xf0 ∷ 0xe1 ∷ 0xd2 ∷ 0xc3 ∷ 0xb4 ∷ 0xa5 ∷ 0x96 ∷ 0x87 ∷ 0x78 ∷ 0x69 ∷ 0x5a ∷ 0x4b ∷ []

-- the S-box, Table 6: what a column of five bits is replaced by
abbrev pub sbox : List ℕ
sbox =
    0x04 ∷ 0x0b ∷ 0x1f ∷ 0x14 ∷ 0x1a ∷ 0x15 ∷ 0x09 ∷ 0x02 ∷ 0x1b ∷ 0x05 ∷ 0x08 ∷ 0x12 ∷ 0x1d ∷ 0x03 ∷ 0x06 ∷ 0x1c
    ∷ 0x1e ∷ 0x13 ∷ 0x07 ∷ 0x0e ∷ 0x00 ∷ 0x0d ∷ 0x11 ∷ 0x18 ∷ 0x10 ∷ 0x0c ∷ 0x01 ∷ 0x19 ∷ 0x16 ∷ 0x0a ∷ 0x0f ∷ 0x17 ∷ []

-- column j: bit j of the five words, that of word 0 highest
abbrev pub column : List ℕ → ℕ → ℕ
column s j =
    bit (slice_index s 0) j * 16 + bit (slice_index s 1) j * 8 + bit (slice_index s 2) j * 4 + bit (slice_index s 3) j * 2 + bit (slice_index s 4) j

-- bit j of word i once every column is replaced: bit 4 − i of what replaces column j
abbrev pub replacement : List ℕ → ℕ → ℕ → ℕ
replacement s i j = bit (slice_index sbox (column s j)) (4 - i)

-- word i once every column is replaced
unfoldable pub replaced : List ℕ → ℕ → ℕ
replaced s i = gather (replacement s i) 64

-- the substitution layer: every column replaced by its entry of the S-box
abbrev pub substitute : List ℕ → List ℕ
substitute s = replaced s 0 ∷ replaced s 1 ∷ replaced s 2 ∷ replaced s 3 ∷ replaced s 4 ∷ []

-- a word XORed with itself rotated right by a and by b
unfoldable pub spread : ℕ → ℕ → ℕ → ℕ
spread w a b = bit_xor (bit_xor w (rotated 64 w a)) (rotated 64 w b)

-- the linear diffusion layer, equations (8) to (12): every word spread
abbrev pub diffuse : List ℕ → List ℕ
diffuse s =
    spread (slice_index s 0) 19 28 ∷ spread (slice_index s 1) 61 39 ∷ spread (slice_index s 2) 1 6
    ∷ spread (slice_index s 3) 10 17 ∷ spread (slice_index s 4) 7 41 ∷ []

-- one round: the constant into word 2, then the substitution, then the diffusion
unfoldable pub round : List ℕ → ℕ → List ℕ
round s c = diffuse (substitute (slice_set s 2 (bit_xor (slice_index s 2) c)))

-- a state after a run of r rounds, which uses constants 16 − r to 15
unfoldable pub permuted : ℕ → List ℕ → List ℕ
permuted r s = fold round s (drop (16 - r) constants)
