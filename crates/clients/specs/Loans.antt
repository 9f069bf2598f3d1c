-- A whole digest on one engine: answer, output and engine afterwards.
-- Assumes nothing.
use Rattle.std.specs.Prelude.{ℕ, List, Result}
use Rattle.digest.specs.Functions.{hash256}
use Rattle.digest.specs.Phases.{in_one, starting}
use Rattle.engine.specs.Meaning.{Meaning}
use Rattle.suite.specs.declared.fault.SuiteFault.{SuiteFault}

-- start, the message in one piece, finish, the output in one piece, end; a refused message ends it before any output
abbrev pub hashing : (message out : List ℕ) → Meaning → Result (Unit {0}) SuiteFault × List ℕ × Meaning
hashing message out m = in_one message out (starting hash256 m)
