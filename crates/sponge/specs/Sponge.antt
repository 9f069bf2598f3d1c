-- The sponge under the digests of SP 800-232, section 5: absorbing blocks of eight bytes, and squeezing them.
-- Assumes nothing.
use Rattle.std.specs.Prelude.{ℕ, zero, suc, ◌+◌, ◌*◌, ◌/◌, List, [], ◌∷◌, ◌++◌, length, drop, replicate, slice_index}
use Rattle.engine.specs.Meaning.{mixed, permuted}
use Rattle.suite.specs.Words.{bytes_of, word}

-- ---- absorbing

-- a start value and four zero words, and run 12
abbrev pub initialized : ℕ → List ℕ
initialized value = permuted 12 (value ∷ 0 ∷ 0 ∷ 0 ∷ 0 ∷ [])

-- bytes, then one byte 0x01, then zeros enough to fill a block of eight bytes
unfoldable pub padded : List ℕ → List ℕ
padded bs = bs ++ 1 ∷ replicate 7 0

-- how many whole blocks there are
unfoldable pub whole_blocks : List ℕ → ℕ
whole_blocks bs = length bs / 8

-- what is left after the whole blocks, perhaps nothing
unfoldable pub rest_of : List ℕ → List ℕ
rest_of bs = drop (8 * whole_blocks bs) bs

-- the words after the first n blocks, each mixed into w0, with run 12 after each
abbrev pub after_blocks : ℕ → List ℕ → List ℕ → List ℕ
after_blocks zero ws bs = ws
after_blocks (suc n) ws bs = permuted 12 (mixed 0 (word (drop (8 * n) bs)) (after_blocks n ws bs))

-- the words after all whole blocks
unfoldable pub absorbed : List ℕ → List ℕ → List ℕ
absorbed ws bs = after_blocks (whole_blocks bs) ws bs

-- the words after a whole message: its whole blocks, then the padded rest with no run
unfoldable pub after_message : List ℕ → List ℕ → List ℕ
after_message ws message = mixed 0 (word (padded (rest_of message))) (absorbed ws message)

-- ---- squeezing

-- the words after n runs
abbrev pub after_runs : ℕ → List ℕ → List ℕ
after_runs zero ws = ws
after_runs (suc n) ws = permuted 12 (after_runs n ws)

-- n blocks of output: w0, each time after another run
abbrev pub output : ℕ → List ℕ → List ℕ
output zero ws = []
output (suc n) ws = output n ws ++ bytes_of (slice_index (after_runs (suc n) ws) 0)

-- how many blocks so many bytes of output begin
unfoldable pub blocks : ℕ → ℕ
blocks size = (size + 7) / 8
