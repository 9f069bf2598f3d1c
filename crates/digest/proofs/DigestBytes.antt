-- The bytes that a session gives are those of the output blocks.
-- Assumes nothing.
use Rattle.std.proofs.Common.{◌≡◌, ℕ, zero, suc, ◌+◌, ◌-◌, ◌*◌, ◌/◌, ◌%◌, ◌<◌, ◌≤◌, List, length, get_or, take, refl, ◌∙◌, ap₂, inl, inr, arith}
use Rattle.std.proofs.lemmas.List.{get_or_append_left, get_or-append_right, length-append, take_more}
use Rattle.std.proofs.lemmas.Bool.{cases_lt}
use Rattle.suite.proofs.Words.{length_bytes_of}
use Rattle.suite.specs.Words.{bytes_of}
use Rattle.sponge.specs.Steps.{byte_at, bytes_next, runs_to}
use Rattle.sponge.specs.Sponge.{after_message, after_runs, blocks, output}
use Rattle.digest.specs.Functions.{Function, digest}

length_output : (n : ℕ) (ws : List ℕ) → length (output n ws) ≡ 8 * n
length_output zero ws = refl
length_output (suc n) ws = grind (arith, length-append, length_bytes_of, length_output n ws)

-- the byte at a place of the blocks
byte_of_output : (n : ℕ) (ws : List ℕ) (i : ℕ) → i < 8 * n → get_or (output n ws) i 0 ≡ byte_at ws 0 i
unfolding byte_at runs_to blocks
byte_of_output zero ws i lt = absurd (omega arith)
byte_of_output (suc n) ws i lt =
    let long = length_output n ws in
    let new = bytes_of (get_or (after_runs (suc n) ws) 0 0) in
    elim (cases_lt i (8 * n)) [
      | inl below ↦
          get_or_append_left (output n ws) new 0 i (omega arith) ∙ byte_of_output n ws i below
      | inr past ↦
          let here : i - 8 * n ≡ i % 8 = omega arith in
          let run : suc n ≡ runs_to 0 (i + 1) = omega arith in
          get_or-append_right (output n ws) new (8 * n) i 0 long past
          ∙ ap₂ (λ (k r : ℕ). get_or (bytes_of (get_or (after_runs r ws) 0 0)) k 0) here run
    ]

front_of_output : (n : ℕ) (ws : List ℕ) (size : ℕ) → size ≤ 8 * n → bytes_next size ws 0 ≡ take size (output n ws)
front_of_output n ws zero le = refl
front_of_output n ws (suc size) le =
    let long = length_output n ws in
    let a = front_of_output n ws size (omega arith) in
    let b = byte_of_output n ws size (omega arith) in
    grind (arith, take_more)

pub digest_bytes : (f : Function) (message : List ℕ) (size : ℕ) → bytes_next size (after_message f.start message) 0 ≡ digest f message size
unfolding digest blocks
digest_bytes f message size = front_of_output ((size + 7) / 8) (after_message f.start message) size (omega arith)
