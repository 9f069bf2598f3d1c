-- What the calls `seal` and `open` answer, and what they leave: answer, output, engine.
-- Assumes nothing.
use Rattle.std.specs.Prelude.{ℕ, ◌+◌, ◌-◌, Bool, cond, ◌||◌, List, ◌++◌, length, take, drop, replicate, Ok, Err, Result, nat_lt}
use Rattle.engine.specs.Meaning.{Meaning}
use Rattle.engine.specs.Runs.{after, has, zero_words}
use Rattle.engine.specs.declared.fault.EngineFault.{EngineFault}
pub use Rattle.suite.specs.Facts.{out_of_runs}
use Rattle.suite.specs.Facts.{stamped}
use Rattle.suite.specs.declared.fault.SuiteFault.{SuiteFault}
use Rattle.suite.specs.declared.fault.SuiteFault.TheVariants.{Engine, InputTooLong, OutputTooShort, TagMissing, TagMismatch}
use Rattle.aead.specs.Bytes.{same}
use Rattle.aead.specs.Cipher.{cost, sealed, tag_of, unsealed}

-- the answer of a call, its output and its engine afterwards
abbrev pub Outcome : Type 0
Outcome = Result ℕ SuiteFault × List ℕ × Meaning

-- associated data or text is too long
abbrev pub long : ℕ → ℕ → Bool
long ad text = nat_lt 16777216 ad || nat_lt 16777216 text

-- the first n bytes are these, the rest is as before
abbrev pub front : ℕ → List ℕ → List ℕ → List ℕ
front n new out = new ++ drop n out

-- how a call ends once it has begun: `runs` runs are paid, or the allowance is used up; zero words; the first n bytes are `new`, or zero
-- after a refusal
abbrev pub accepted : ℕ → ℕ → List ℕ → List ℕ → Meaning → Outcome
accepted runs n new out m = (Ok n, front n new out, after runs zero_words m)

abbrev pub cleared : ℕ → ℕ → SuiteFault → List ℕ → Meaning → Outcome
cleared runs n fault out m = (Err fault, front n (replicate n 0) out, after runs zero_words m)

-- a computed tag against the one that came, an engine's refusal as one of the suite, the runs not yet put in
abbrev pub verified : List ℕ → Result (List ℕ) EngineFault → Result (Unit {0}) SuiteFault
verified tag (Ok computed) = cond (same computed tag) (Ok tt) (Err TagMismatch)
verified tag (Err e) = Err (Engine e 0)

-- the answer of a call that wrote n bytes or was refused
abbrev pub settled : ℕ → ℕ → Result (Unit {0}) SuiteFault → Result ℕ SuiteFault
settled runs n (Ok u) = Ok n
settled runs n (Err e) = Err (stamped runs e)

-- seal: lengths? output long enough? runs?
unfoldable pub sealing : (key nonce ad text out : List ℕ) → Meaning → Outcome
sealing key nonce ad text out m =
    let n = length text + 16 in
    let runs = cost (length ad) (length text) in
    cond (long (length ad) (length text)) (Err InputTooLong, out, m)
    (cond (nat_lt (length out) n) (Err OutputTooShort, out, m)
    (cond (has runs m) (accepted runs n (sealed key nonce ad text) out m)
    (cleared runs n (out_of_runs m) out m)))

-- open: 16 bytes? lengths? output long enough? runs? tag equal?
unfoldable pub opening : (key nonce ad sealed out : List ℕ) → Meaning → Outcome
opening key nonce ad sealed out m =
    let n = length sealed - 16 in
    let runs = cost (length ad) n in
    let text = unsealed key nonce ad (take n sealed) in
    cond (nat_lt (length sealed) 16) (Err TagMissing, out, m)
    (cond (long (length ad) n) (Err InputTooLong, out, m)
    (cond (nat_lt (length out) n) (Err OutputTooShort, out, m)
    (cond (has runs m)
    (cond (same (tag_of key nonce ad text) (drop n sealed)) (accepted runs n text out m) (cleared runs n TagMismatch out m))
    (cleared runs n (out_of_runs m) out m))))
