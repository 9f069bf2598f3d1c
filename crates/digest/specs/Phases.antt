-- What each call of a session answers, and what it leaves: a function of the session before and the bytes alone.
-- Assumes nothing.
use Rattle.std.specs.Prelude.{ℕ, ◌+◌, Bool, true, false, cond, List, [], ◌++◌, length, replicate, is_ok, Ok, Err, Result, nat_lt}
use Rattle.engine.specs.Meaning.{Meaning, holding, mixed}
use Rattle.engine.specs.Runs.{after, has, wiped, zero_words}
use Rattle.sponge.specs.Sponge.{absorbed, after_runs, padded, rest_of, whole_blocks}
use Rattle.sponge.specs.Steps.{bytes_next, runs_to}
use Rattle.suite.specs.Facts.{out_of_runs}
use Rattle.suite.specs.Words.{word}
use Rattle.suite.specs.declared.fault.SuiteFault.{SuiteFault}
use Rattle.suite.specs.declared.fault.SuiteFault.TheVariants.{MessageTooLong, OutputTooLong, SessionStopped}
use Rattle.digest.specs.Functions.{Function}

-- ---- absorbing

-- A session that takes a message: its engine, the bytes of the block that is not yet whole, the bytes taken so far, the most bytes
-- that it will give, and whether it is stopped.
pub record AbsorbingPhase : Type 0 where
  pub engine : Meaning
  pub rest : List ℕ
  pub taken : ℕ
  pub limit : ℕ
  pub stopped : Bool

abbrev pub taking : ℕ → List ℕ → ℕ → Meaning → AbsorbingPhase
taking limit rest taken m = record { engine = m; rest = rest; taken = taken; limit = limit; stopped = false }

-- a stopped one keeps nothing of the message
abbrev pub stopped_taking : ℕ → Meaning → AbsorbingPhase
stopped_taking limit m = record { engine = m; rest = []; taken = 0; limit = limit; stopped = true }

-- start: a session over the function's start, or a stopped one with zero words where the engine lacks a run
abbrev pub starting : Function → Meaning → AbsorbingPhase
starting f m =
    cond (has f.runs m) (taking f.limit [] 0 (after f.runs f.start m))
    (stopped_taking f.limit (after f.runs zero_words m))

-- a message piece: not stopped? message not too long? runs?
abbrev pub absorbing : List ℕ → AbsorbingPhase → Result (Unit {0}) SuiteFault × AbsorbingPhase
absorbing piece s =
    let m = s.engine in
    let bytes = s.rest ++ piece in
    let runs = whole_blocks bytes in
    cond s.stopped (Err SessionStopped, s)
    (cond (nat_lt 16777216 (s.taken + length piece)) (Err MessageTooLong, s)
    (cond (has runs m)
    (Ok tt, taking s.limit (rest_of bytes) (s.taken + length piece) (after runs (absorbed m.words bytes) m))
    (Err (out_of_runs m), stopped_taking s.limit (after runs zero_words m))))

-- ---- squeezing

-- A session that gives output: its engine, the bytes given so far, the most bytes that it will give, and whether it is stopped.
pub record SqueezingPhase : Type 0 where
  pub engine : Meaning
  pub given : ℕ
  pub limit : ℕ
  pub stopped : Bool

abbrev pub giving : ℕ → ℕ → Meaning → SqueezingPhase
giving limit given m = record { engine = m; given = given; limit = limit; stopped = false }

abbrev pub stopped_giving : ℕ → Meaning → SqueezingPhase
stopped_giving limit m = record { engine = m; given = 0; limit = limit; stopped = true }

-- finish: the padded rest mixed in, with no run; a stopped session stays stopped, and nothing is mixed in
abbrev pub finishing : AbsorbingPhase → SqueezingPhase
finishing s =
    cond s.stopped (stopped_giving s.limit s.engine)
    (giving s.limit 0 (holding (mixed 0 (word (padded s.rest)) s.engine.words) s.engine))

-- an output piece: not stopped? output not too long? runs?
abbrev pub squeezing : List ℕ → SqueezingPhase → Result (Unit {0}) SuiteFault × List ℕ × SqueezingPhase
squeezing out s =
    let m = s.engine in
    let n = length out in
    let runs = runs_to s.given (s.given + n) in
    cond s.stopped (Err SessionStopped, out, s)
    (cond (nat_lt s.limit (s.given + n)) (Err OutputTooLong, out, s)
    (cond (has runs m)
    (Ok tt, bytes_next n m.words s.given, giving s.limit (s.given + n) (after runs (after_runs runs m.words) m))
    (Err (out_of_runs m), replicate n 0, stopped_giving s.limit (after runs zero_words m))))

-- ---- a whole digest

-- the message in one piece, finish, the output in one piece, end; a refused message ends it before any output
abbrev pub in_one : (message out : List ℕ) → AbsorbingPhase → Result (Unit {0}) SuiteFault × List ℕ × Meaning
in_one message out s =
    let taken = absorbing message s in
    let given = squeezing out (finishing taken.1) in
    cond (is_ok taken.0) (given.0, given.1, wiped given.2.engine) (taken.0, out, wiped taken.1.engine)
