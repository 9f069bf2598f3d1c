-- Sealing and opening undo one another: of the cipher, and of the two calls.
-- Assumes nothing.
use Rattle.std.specs.Prelude.{◌≡◌, ℕ, ◌+◌, ◌<◌, ◌≤◌, true, false, List, ◌++◌, length, take, drop, Ok}
use Rattle.engine.specs.Meaning.{Meaning}
use Rattle.engine.specs.Runs.{has}
use Rattle.std.specs.List.{AllByRecursion}
use Rattle.aead.specs.Calls.{accepted, long, opening, sealing}
use Rattle.aead.specs.Cipher.{cost, sealed, tag_of, unsealed}

-- every one of them a byte
abbrev pub Bytes : List ℕ → Type 0
Bytes xs = AllByRecursion (λ b. b < 256) xs

-- ---- the cipher

-- what is sealed opens to the text that went in, and its tag is right
abbrev pub SealedOpens : Type 0
SealedOpens =
    (key nonce ad text : List ℕ) → Bytes text
    → (unsealed key nonce ad (take (length text) (sealed key nonce ad text)) ≡ text)
    × (tag_of key nonce ad text ≡ drop (length text) (sealed key nonce ad text))

-- what opens under a right tag is what sealing its text gives
abbrev pub OpenedSeals : Type 0
OpenedSeals =
    (key nonce ad c tag : List ℕ) → Bytes c
    → tag_of key nonce ad (unsealed key nonce ad c) ≡ tag
    → sealed key nonce ad (unsealed key nonce ad c) ≡ c ++ tag

-- ---- the calls

-- opening what an accepted sealing wrote gives the text that went in, on every engine that has the runs
abbrev pub OpeningUndoesSealing : Type 0
OpeningUndoesSealing =
    (key nonce ad text out out' : List ℕ) (m m' : Meaning) (n : ℕ) → Bytes text → (sealing key nonce ad text out m).0 ≡ Ok n
    → length text ≤ length out' → has (cost (length ad) (length text)) m' ≡ true
    → opening key nonce ad (take n (sealing key nonce ad text out m).1) out' m'
    ≡ accepted (cost (length ad) (length text)) (length text) text out' m'

-- sealing what an accepted opening wrote gives the sealed text again, on every engine that has the runs
abbrev pub SealingUndoesOpening : Type 0
SealingUndoesOpening =
    (key nonce ad s out out' : List ℕ) (m m' : Meaning) (n : ℕ) → Bytes s → (opening key nonce ad s out m).0 ≡ Ok n
    → n + 16 ≤ length out' → has (cost (length ad) n) m' ≡ true
    → sealing key nonce ad (take n (opening key nonce ad s out m).1) out' m' ≡ accepted (cost (length ad) n) (n + 16) s out' m'

-- every sealed text within the limits is accepted where there are room and runs; what is accepted is a sealed text
pub record AcceptsExactlySealed : Type 0 where
  pub sealed_accepted : (key nonce ad text out : List ℕ) (m : Meaning) → Bytes text → long (length ad) (length text) ≡ false
      → length text ≤ length out → has (cost (length ad) (length text)) m ≡ true
      → opening key nonce ad (sealed key nonce ad text) out m ≡ accepted (cost (length ad) (length text)) (length text) text out m
  pub accepted_sealed : (key nonce ad s out : List ℕ) (m : Meaning) (n : ℕ) → Bytes s → (opening key nonce ad s out m).0 ≡ Ok n
      → (text : List ℕ) × Bytes text × (length text ≡ n) × (sealed key nonce ad text ≡ s)
      × (opening key nonce ad s out m ≡ accepted (cost (length ad) n) n text out m)
