-- A quota by its two parts, and what its calls do to each.
-- Assumes nothing.
use Rattle.std.specs.Prelude.{ℕ, ◌-◌, cond, Ok, Err, Result}
use Rattle.engine.specs.Allowance.{covers, smaller}
use Rattle.engine.specs.Meaning.{Meaning, Answered, ran, rounds_allowed}
use Rattle.engine.specs.Of.{meaning}
use Rattle.engine.specs.declared.fault.EngineFault.{EngineFault}
use Rattle.engine.specs.declared.fault.EngineFault.TheVariants.{RoundsOutOfRange, NoRunsLeft}
use Rattle.engine.specs.declared.interface.Engine.{Ghosts}
use Rattle.layers.specs.declared.quota.Quota.{Quota}

-- what a quota means: the words below, and the smaller of its count and the allowance below
abbrev pub limited : {E : Type 0} → Ghosts E → Quota E → Meaning
limited g q = record { words = g.words q.engine; allowance = smaller q.count (g.allowance q.engine); loans = g.loans q.engine }

-- the count, and what the engine below means
pub record Metered : Type 0 where
  pub count : ℕ
  pub engine : Meaning

abbrev pub metered : {E : Type 0} → Ghosts E → Quota E → Metered
metered g q = record { count = q.count; engine = meaning g q.engine }

-- a call that changes the engine below, and not the count
abbrev pub below : (Meaning → Meaning) → Metered → Metered
below f q = record { count = q.count; engine = f q.engine }

-- a call that is passed to the engine below, answer and all
abbrev pub passed : {T : Type 0} → (Meaning → Answered T) → Metered → Result T EngineFault × Metered
passed f q = ((f q.engine).0, record { count = q.count; engine = (f q.engine).1 })

-- an accepted run lowers the count by 1 and runs the engine below
abbrev pub run_metered : ℕ → Metered → Result (Unit {0}) EngineFault × Metered
run_metered rounds q =
    cond (rounds_allowed rounds)
    (cond (covers 1 (smaller q.count q.engine.allowance))
    (Ok tt, record { count = q.count - 1; engine = ran rounds q.engine })
    (Err NoRunsLeft, q))
    (Err RoundsOutOfRange, q)
