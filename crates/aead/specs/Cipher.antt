-- Ascon-AEAD128 (SP 800-232, section 4.1): sealing, opening, and what they cost in runs.
-- Assumes nothing.
use Rattle.std.specs.Prelude.{ℕ, ◌+◌, ◌/◌, cond, List, [], ◌∷◌, ◌++◌, length, drop, ◌==◌, bit_xor, slice_index}
use Rattle.engine.specs.Meaning.{mixed, permuted}
use Rattle.aead.specs.Blocks.{after_blocks, after_text, ciphertext, plaintext}
use Rattle.aead.specs.Bytes.{bytes_of, word}

-- initialization: start value, key and nonce, run 12, the key again
abbrev pub started : List ℕ → List ℕ → List ℕ
started key nonce =
    mixed 4 (word (drop 8 key))
    (mixed 3 (word key) (permuted 12 (0x00001000808c0001 ∷ word key ∷ word (drop 8 key) ∷ word nonce ∷ word (drop 8 nonce) ∷ [])))

-- the blocks that so many bytes of associated data make: none if there are none, else one more than the whole ones
unfoldable pub data_blocks : ℕ → ℕ
data_blocks size = cond (size == 0) 0 (size / 16 + 1)

-- associated data, with run 8 after each block, and then always the domain mark
abbrev pub bound : List ℕ → List ℕ → List ℕ
bound ws ad = mixed 4 0x8000000000000000 (after_blocks (data_blocks (length ad)) ws ad)

-- the words before the text
unfoldable pub ready : List ℕ → List ℕ → List ℕ → List ℕ
ready key nonce ad = bound (started key nonce) ad

-- finalization: the key, run 12
abbrev pub ended : List ℕ → List ℕ → List ℕ
ended key ws = permuted 12 (mixed 3 (word (drop 8 key)) (mixed 2 (word key) ws))

-- the tag, read from the last words
abbrev pub tag_at : List ℕ → List ℕ → List ℕ
tag_at key ws = bytes_of (bit_xor (slice_index ws 3) (word key)) ++ bytes_of (bit_xor (slice_index ws 4) (word (drop 8 key)))

-- the tag of a text
unfoldable pub tag_of : List ℕ → List ℕ → List ℕ → List ℕ → List ℕ
tag_of key nonce ad text = tag_at key (ended key (after_text (ready key nonce ad) text))

-- the ciphertext and then the tag
unfoldable pub sealed : List ℕ → List ℕ → List ℕ → List ℕ → List ℕ
sealed key nonce ad text = ciphertext (ready key nonce ad) text ++ tag_of key nonce ad text

-- the text under a ciphertext
unfoldable pub unsealed : List ℕ → List ℕ → List ℕ → List ℕ → List ℕ
unsealed key nonce ad c = plaintext (ready key nonce ad) c

-- the runs that so many bytes of associated data and of text cost
unfoldable pub cost : ℕ → ℕ → ℕ
cost ad text = 1 + data_blocks ad + text / 16 + 1
