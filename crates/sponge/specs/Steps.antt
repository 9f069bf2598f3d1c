-- The steps of the sponge byte by byte.
-- Assumes nothing.
use Rattle.std.specs.Prelude.{ℕ, zero, suc, ◌+◌, ◌-◌, ◌%◌, cond, List, [], ◌∷◌, ◌++◌, length, Some, None, Option, ◌==◌, slice_index}
use Rattle.suite.specs.Words.{bytes_of, word}
use Rattle.sponge.specs.Sponge.{after_runs, blocks}

-- a byte placed into a block: the word of the block once that is whole, and the bytes that it then holds
abbrev pub placing : ℕ → List ℕ → Option ℕ × List ℕ
placing b rest = cond (length rest == 7) (Some (word (rest ++ b ∷ [])), []) (None, rest ++ b ∷ [])

-- the runs from one place of the output to another
unfoldable pub runs_to : ℕ → ℕ → ℕ
runs_to given at = blocks at - blocks given

-- the byte at a place of the output, seen from the words that a session holds after it gave so many bytes
unfoldable pub byte_at : List ℕ → ℕ → ℕ → ℕ
byte_at ws given at = slice_index (bytes_of (slice_index (after_runs (runs_to given (at + 1)) ws) 0)) (at % 8)

-- the n bytes that come next
abbrev pub bytes_next : ℕ → List ℕ → ℕ → List ℕ
bytes_next zero ws given = []
bytes_next (suc n) ws given = bytes_next n ws given ++ byte_at ws given (given + n) ∷ []
