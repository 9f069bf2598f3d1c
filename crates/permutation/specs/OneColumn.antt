-- The substitution layer column by column: what one column adds, and what the first n columns give.
-- Assumes nothing.
use Rattle.std.specs.Prelude.{ℕ, ◌*◌, ◌^◌, List, [], ◌∷◌, bit_or, slice_index}
use Rattle.permutation.specs.Bits.{bit, gather}
use Rattle.permutation.specs.Permutation.{replacement}

-- five words with the bits of an entry set into column j, highest first
abbrev pub with_column : List ℕ → ℕ → ℕ → List ℕ
with_column y j entry =
    bit_or (slice_index y 0) (bit entry 4 * 2 ^ j) ∷ bit_or (slice_index y 1) (bit entry 3 * 2 ^ j) ∷ bit_or (slice_index y 2) (bit entry 2 * 2 ^ j)
    ∷ bit_or (slice_index y 3) (bit entry 1 * 2 ^ j) ∷ bit_or (slice_index y 4) (bit entry 0 * 2 ^ j) ∷ []

-- the words of the first n columns, replaced
unfoldable pub gathered : List ℕ → ℕ → List ℕ
gathered s n =
    gather (replacement s 0) n ∷ gather (replacement s 1) n ∷ gather (replacement s 2) n
    ∷ gather (replacement s 3) n ∷ gather (replacement s 4) n ∷ []
