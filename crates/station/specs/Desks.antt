-- The desk when a session is opened, and when it is closed.
-- Assumes nothing.
use Rattle.std.specs.Prelude.{◌≡◌, true, false, length, Ok, Err, Result, nat_le}
use Rattle.engine.specs.Runs.{wiped}
use Rattle.suite.specs.declared.fault.SuiteFault.{SuiteFault}
use Rattle.suite.specs.declared.fault.SuiteFault.TheVariants.{CustomizationTooLong}
use Rattle.digest.specs.Phases.{AbsorbingPhase, starting}
use Rattle.digest.specs.Sessions.{taking_or_stopped}
use Rattle.digest.specs.declared.session.Absorbing as session
use Rattle.sponge.specs.Held.{part_of}
use Rattle.station.specs.Built.{Pile}
use Rattle.station.specs.Digests.{Typed, custom_of, typed}
use Rattle.station.specs.Piles.{pile_meaning}
use Rattle.station.specs.declared.bench.Bench.{Bench}
use Rattle.station.specs.declared.command.Kind.{Kind}
use Rattle.station.specs.declared.desk.Desk.{Desk}
use Rattle.station.specs.declared.desk.Desk.TheVariants.{Idle, Absorbing, Squeezing}

-- a session that takes a message on the bench's engine
abbrev pub pile_absorbing : session.Absorbing Pile → AbsorbingPhase
pile_absorbing s = taking_or_stopped s.limit (pile_meaning s.engine) (part_of s.block) s.taken

-- opened: a session started on the bench's engine, or the bench as it was where the customization has more than 256 bytes
abbrev pub Opened : Typed → Bench → Result (Unit {0}) SuiteFault → Desk → Type 0
Opened d b (Ok x) (Idle c) = ⊥
Opened d b (Ok x) (Absorbing k s) =
    (nat_le (length (custom_of d)) 256 ≡ true) × (k ≡ b.kind) × (pile_absorbing s ≡ starting (typed d) (pile_meaning b.engine))
Opened d b (Ok x) (Squeezing k s) = ⊥
Opened d b (Err e) (Idle c) = (nat_le (length (custom_of d)) 256 ≡ false) × (e ≡ CustomizationTooLong) × (c ≡ b)
Opened d b (Err e) (Absorbing k s) = ⊥
Opened d b (Err e) (Squeezing k s) = ⊥

-- a bench of this kind, with this engine's runs left and zero words
abbrev pub Returned : Kind → Pile → Bench → Type 0
Returned k e r = (r.kind ≡ k) × (pile_meaning r.engine ≡ wiped (pile_meaning e))

-- closed: an idle bench as it was, else the session's engine on a bench of the same kind
abbrev pub Closed : Desk → Bench → Type 0
Closed (Idle b) r = r ≡ b
Closed (Absorbing k s) r = Returned k s.engine r
Closed (Squeezing k s) r = Returned k s.engine r
