-- Drawing the key of a link, call by call.
-- Assumes nothing.
use Rattle.std.specs.Prelude.{ℕ, List, Result}
use Rattle.engine.specs.Meaning.{Meaning}
use Rattle.digest.specs.Functions.{cxof128}
use Rattle.digest.specs.Phases.{in_one, starting}
use Rattle.suite.specs.declared.fault.SuiteFault.{SuiteFault}

-- start, and then the secret in one piece and the key in one piece
unfoldable pub filling : (secret name key : List ℕ) → Meaning → Result (Unit {0}) SuiteFault × List ℕ × Meaning
filling secret name key m = in_one secret key (starting (cxof128 name) m)
