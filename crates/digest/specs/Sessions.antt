-- What a session of the code stands for.
-- Assumes nothing.
use Rattle.std.specs.Prelude.{ℕ, true, List, Some, None, Option}
use Rattle.engine.specs.Meaning.{Meaning}
use Rattle.engine.specs.Of.{meaning}
use Rattle.engine.specs.declared.interface.Engine.{Ghosts}
use Rattle.sponge.specs.Held.{part_of}
use Rattle.digest.specs.Phases.{AbsorbingPhase, SqueezingPhase, giving, stopped_giving, taking}
use Rattle.digest.specs.declared.session.Absorbing.{Absorbing}
use Rattle.digest.specs.declared.session.Squeezing.{Squeezing}

-- a session that counts no bytes is stopped; its block is looked at all the same, so that one that keeps nothing has an empty block
abbrev pub taking_or_stopped : ℕ → Meaning → List ℕ → Option ℕ → AbsorbingPhase
taking_or_stopped limit m rest (Some taken) = taking limit rest taken m
taking_or_stopped limit m rest None = record { engine = m; rest = rest; taken = 0; limit = limit; stopped = true }

abbrev pub absorbing_of : {E : Type 0} → Ghosts E → Absorbing E → AbsorbingPhase
absorbing_of g s = taking_or_stopped s.limit (meaning g s.engine) (part_of s.block) s.taken

-- a session that counts no output is stopped
abbrev pub giving_or_stopped : ℕ → Meaning → Option ℕ → SqueezingPhase
giving_or_stopped limit m (Some given) = giving limit given m
giving_or_stopped limit m None = stopped_giving limit m

abbrev pub squeezing_of : {E : Type 0} → Ghosts E → Squeezing E → SqueezingPhase
squeezing_of g s = giving_or_stopped s.limit (meaning g s.engine) s.given
