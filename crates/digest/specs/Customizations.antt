-- Making a customization: the answer, and the bytes held afterwards.
-- Assumes nothing.
use Rattle.std.specs.Prelude.{ℕ, cond, List, length, Ok, Err, Result, nat_le}
use Rattle.suite.specs.declared.fault.SuiteFault.{SuiteFault}
use Rattle.suite.specs.declared.fault.SuiteFault.TheVariants.{CustomizationTooLong}

-- making: at most 256 bytes?
abbrev pub making : List ℕ → List ℕ → Result (Unit {0}) SuiteFault × List ℕ
making bytes held = cond (nat_le (length bytes) 256) (Ok tt, bytes) (Err CustomizationTooLong, held)
