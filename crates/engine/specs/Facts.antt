-- The refusals of an engine: number, layer and place, case by case.
-- Assumes nothing.
use Rattle.std.specs.Prelude.{ℕ}
use Rattle.engine.specs.declared.fault.EngineFault.{EngineFault}
use Rattle.engine.specs.declared.fault.EngineFault.TheVariants.{NoSuchWord, RoundsOutOfRange, NoRunsLeft}
use Rattle.engine.specs.declared.fault.Layer.{Layer}
use Rattle.engine.specs.declared.fault.Layer.TheVariants.{Engine}

pub record Facts : Type 0 where
  pub number : ℕ
  pub layer : Layer
  pub place : ℕ

abbrev pub facts : EngineFault → Facts
facts NoSuchWord = record { number = 1; layer = Engine; place = 0 }
facts RoundsOutOfRange = record { number = 2; layer = Engine; place = 0 }
facts NoRunsLeft = record { number = 3; layer = Engine; place = 0 }
