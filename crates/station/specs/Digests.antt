-- The digest commands: a session from its start to its end, with one message piece and one output piece.
-- Assumes nothing.
use Rattle.std.specs.Prelude.{◌≡◌, ℕ, true, false, cond, List, [], length, Ok, Err, Result, Vec, nat_le}
use Rattle.engine.specs.Meaning.{Meaning}
use Rattle.digest.specs.Phases.{in_one, starting}
use Rattle.digest.specs.Functions as functions
use Rattle.suite.specs.declared.fault.SuiteFault.{SuiteFault}
use Rattle.suite.specs.declared.fault.SuiteFault.TheVariants.{CustomizationTooLong}
use Rattle.std.specs.declared.alloc.Global.{Global}
use Rattle.digest.specs.declared.customization.Customization.{Customization}
use Rattle.station.specs.declared.digests.Function.{Function}
use Rattle.station.specs.declared.digests.Function.TheVariants.{Hash256, Xof128, Cxof128}

-- the function of SP 800-232 that is chosen, where the customization stands for these bytes
abbrev pub chosen : {C : Type 0} → (C → List ℕ) → Function C → functions.Function
chosen bytes Hash256 = functions.hash256
chosen bytes Xof128 = functions.xof128
chosen bytes (Cxof128 custom) = functions.cxof128 (bytes custom)

-- its customization, empty for a function that takes none
abbrev pub custom_by : {C : Type 0} → (C → List ℕ) → Function C → List ℕ
custom_by bytes Hash256 = []
custom_by bytes Xof128 = []
custom_by bytes (Cxof128 custom) = bytes custom

-- a function as it was typed
abbrev pub Typed : Type 0
Typed = Function (Vec ℕ Global)

-- the function as it was typed, and as a session is started of it
abbrev pub typed : Typed → functions.Function
typed f = chosen (λ text. text.items) f

abbrev pub custom_of : Typed → List ℕ
custom_of f = custom_by (λ text. text.items) f

abbrev pub function_of : Function Customization → functions.Function
function_of f = chosen (λ custom. custom.bytes.now) f

-- at most 256 bytes of customization? then the function that was typed
abbrev pub Admitted : Typed → Result (Function Customization) SuiteFault → Type 0
Admitted d (Ok f) = (nat_le (length (custom_of d)) 256 ≡ true) × (function_of f ≡ typed d)
Admitted d (Err e) = (nat_le (length (custom_of d)) 256 ≡ false) × (e ≡ CustomizationTooLong)

-- what a whole session answers, its output, and the engine that comes back
abbrev pub Whole : Type 0
Whole = Result (Unit {0}) SuiteFault × List ℕ × Meaning

-- a session of a function with one message piece and one output piece; the first refusal ends it
abbrev pub digested_once : functions.Function → List ℕ → List ℕ → Meaning → Whole
digested_once f message out m = in_one message out (starting f m)

-- a digest command: at most 256 bytes of customization? then the session
abbrev pub digesting : Typed → (message out : List ℕ) → Meaning → Whole
digesting d message out m =
    cond (nat_le (length (custom_of d)) 256) (digested_once (typed d) message out m) (Err CustomizationTooLong, out, m)
