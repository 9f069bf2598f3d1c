-- Known values of the permutation.
-- Assumes nothing.
use Rattle.std.specs.Prelude.{◌≡◌, ℕ, ◌-◌, List, [], ◌∷◌, slice_index_or}
use Rattle.permutation.specs.Permutation.{constants, sbox, spread, permuted}

-- the state after the initialization phase of a hash function: run 12 from its start value and four zero words
abbrev pub initial : ℕ → List ℕ
initial start = permuted 12 (start ∷ 0 ∷ 0 ∷ 0 ∷ 0 ∷ [])

-- the three states of Table 12
abbrev pub hash256_initial : List ℕ
hash256_initial =
    0x9b1e5494e934d681 ∷ 0x4bc3a01e333751d2 ∷ 0xae65396c6b34b81a ∷ 0x3c7fd4a4d56a4db3 ∷ 0x1a5c464906c5976d ∷ []

abbrev pub xof128_initial : List ℕ
xof128_initial =
    0xda82ce768d9447eb ∷ 0xcc7ce6c75f1ef969 ∷ 0xe7508fd780085631 ∷ 0x0ee0ea53416b58cc ∷ 0xe0547524db6f0bde ∷ []

abbrev pub cxof128_initial : List ℕ
cxof128_initial =
    0x675527c2a0e8de03 ∷ 0x43d12d7dc0377bbc ∷ 0xe9901dec426e81b5 ∷ 0x2ab14907720780b6 ∷ 0x8f3f1d02d432bc46 ∷ []

-- values that follow from the definitions alone
pub record KnownValues : Type 0 where
  pub sbox_first : slice_index_or sbox 0 0 ≡ 4
  pub sbox_last : slice_index_or sbox 31 0 ≡ 0x17
  pub run_12_starts : slice_index_or constants (16 - 12) 0 ≡ 0xf0
  pub run_8_starts : slice_index_or constants (16 - 8) 0 ≡ 0xb4
  pub one_spread : spread 1 19 28 ≡ 0x0000201000000001
  pub hash256 : initial 0x0000080100cc0002 ≡ hash256_initial
  pub xof128 : initial 0x0000080000cc0003 ≡ xof128_initial
  pub cxof128 : initial 0x0000080000cc0004 ≡ cxof128_initial
