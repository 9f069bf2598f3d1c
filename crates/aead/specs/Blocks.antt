-- What absorbing, sealing and opening block by block makes of the words.
-- Assumes nothing.
use Rattle.std.specs.Prelude.{ℕ, zero, suc, ◌+◌, ◌/◌, List, [], ◌++◌, length, take, drop, slice_index}
use Rattle.engine.specs.Meaning.{mixed, permuted}
use Rattle.aead.specs.Bytes.{block, bytes_of, part, word, xored}

-- a block mixed into the first two words
unfoldable pub absorbed : List ℕ → List ℕ → List ℕ
absorbed ws b = mixed 1 (word (drop 8 b)) (mixed 0 (word b) ws)

-- the bytes of the first two words
unfoldable pub rate : List ℕ → List ℕ
rate ws = bytes_of (slice_index ws 0) ++ bytes_of (slice_index ws 1)

-- the words after n blocks, with a run after each
abbrev pub after_blocks : ℕ → List ℕ → List ℕ → List ℕ
after_blocks zero ws bs = ws
after_blocks (suc n) ws bs = permuted 8 (absorbed (after_blocks n ws bs) (block bs n))

-- what n blocks of text are sealed to
abbrev pub sealed_blocks : ℕ → List ℕ → List ℕ → List ℕ
sealed_blocks zero ws text = []
sealed_blocks (suc n) ws text = sealed_blocks n ws text ++ rate (absorbed (after_blocks n ws text) (block text n))

-- the text under a part of the ciphertext
unfoldable pub uncovered : List ℕ → List ℕ → List ℕ
uncovered ws c = xored c (rate ws)

-- the words after n blocks of ciphertext are opened
abbrev pub after_opening : ℕ → List ℕ → List ℕ → List ℕ
after_opening zero ws c = ws
after_opening (suc n) ws c = permuted 8 (absorbed (after_opening n ws c) (uncovered (after_opening n ws c) (part c n)))

-- the text of n blocks of ciphertext
abbrev pub opened_blocks : ℕ → List ℕ → List ℕ → List ℕ
opened_blocks zero ws c = []
opened_blocks (suc n) ws c = opened_blocks n ws c ++ uncovered (after_opening n ws c) (part c n)

-- the words after a whole text, its padded rest mixed in without a run
unfoldable pub after_text : List ℕ → List ℕ → List ℕ
after_text ws text = absorbed (after_blocks (length text / 16) ws text) (block text (length text / 16))

-- as many bytes as the text has
unfoldable pub ciphertext : List ℕ → List ℕ → List ℕ
ciphertext ws text = take (length text) (sealed_blocks (length text / 16 + 1) ws text)

-- the text under a whole ciphertext
unfoldable pub plaintext : List ℕ → List ℕ → List ℕ
plaintext ws c = opened_blocks (length c / 16 + 1) ws c
