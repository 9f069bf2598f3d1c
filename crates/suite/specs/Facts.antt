-- The refusals of the suite: number, layer and place, case by case.
-- Assumes nothing.
use Rattle.std.specs.Prelude.{ℕ}
use Rattle.engine.specs.Facts as engine
use Rattle.engine.specs.Facts.{Facts}
use Rattle.engine.specs.Meaning.{Meaning}
use Rattle.engine.specs.Runs.{completed, refusal}
use Rattle.engine.specs.declared.fault.Layer.TheVariants as layer
use Rattle.suite.specs.declared.fault.SuiteFault.{SuiteFault}
use Rattle.suite.specs.declared.fault.SuiteFault.TheVariants.{Engine, CustomizationTooLong, SessionStopped, MessageTooLong, OutputTooLong, InputTooLong, OutputTooShort, TagMissing, TagMismatch}

-- an engine's refusal keeps its number and its layer; its place is the runs that the call had completed
abbrev pub facts : SuiteFault → Facts
facts (Engine fault runs) = record { number = (engine.facts fault).number; layer = (engine.facts fault).layer; place = runs }
facts CustomizationTooLong = record { number = 4; layer = layer.Suite; place = 0 }
facts SessionStopped = record { number = 5; layer = layer.Suite; place = 0 }
facts MessageTooLong = record { number = 6; layer = layer.Suite; place = 0 }
facts OutputTooLong = record { number = 7; layer = layer.Suite; place = 0 }
facts InputTooLong = record { number = 8; layer = layer.Suite; place = 0 }
facts OutputTooShort = record { number = 9; layer = layer.Suite; place = 0 }
facts TagMissing = record { number = 10; layer = layer.Suite; place = 0 }
facts TagMismatch = record { number = 11; layer = layer.Suite; place = 0 }

-- a refusal with the runs that the call had completed
abbrev pub stamped : ℕ → SuiteFault → SuiteFault
stamped runs (Engine fault before) = Engine fault runs
stamped runs CustomizationTooLong = CustomizationTooLong
stamped runs SessionStopped = SessionStopped
stamped runs MessageTooLong = MessageTooLong
stamped runs OutputTooLong = OutputTooLong
stamped runs InputTooLong = InputTooLong
stamped runs OutputTooShort = OutputTooShort
stamped runs TagMissing = TagMissing
stamped runs TagMismatch = TagMismatch

-- the refusal of a call whose engine lacks a run that it needs: the engine's, with the runs that the call completed
abbrev pub out_of_runs : Meaning → SuiteFault
out_of_runs m = Engine (refusal m) (completed m)
