-- The refusals of the link: number, layer and place, case by case.
-- Assumes nothing.
use Rattle.std.specs.Prelude.{ℕ}
use Rattle.engine.specs.Facts.{Facts}
use Rattle.engine.specs.declared.fault.Layer.TheVariants.{Link}
use Rattle.suite.specs.Facts as suite
use Rattle.frame.specs.declared.fault.LinkFault.{LinkFault}
use Rattle.frame.specs.declared.fault.LinkFault.TheVariants.{Suite, NameOutOfRange, SameStation, NumberOutOfRange, PartTooLong, OutputTooShort, FrameTooShort, MarkMissing, WrongLengths, WrongStation, WrongNumber}

-- a refusal of the suite keeps its number, its layer and its place; the place of a trailer's refusal is where in it the field begins
abbrev pub facts : LinkFault → Facts
facts (Suite fault) = suite.facts fault
facts OutputTooShort = record { number = 9; layer = Link; place = 0 }
facts NameOutOfRange = record { number = 12; layer = Link; place = 0 }
facts SameStation = record { number = 13; layer = Link; place = 0 }
facts NumberOutOfRange = record { number = 14; layer = Link; place = 0 }
facts PartTooLong = record { number = 15; layer = Link; place = 0 }
facts FrameTooShort = record { number = 16; layer = Link; place = 0 }
facts MarkMissing = record { number = 17; layer = Link; place = 14 }
facts WrongLengths = record { number = 18; layer = Link; place = 10 }
facts WrongStation = record { number = 19; layer = Link; place = 6 }
facts WrongNumber = record { number = 20; layer = Link; place = 0 }

-- a refusal with the runs that the call had completed
abbrev pub stamped : ℕ → LinkFault → LinkFault
stamped runs (Suite fault) = Suite (suite.stamped runs fault)
stamped runs NameOutOfRange = NameOutOfRange
stamped runs SameStation = SameStation
stamped runs NumberOutOfRange = NumberOutOfRange
stamped runs PartTooLong = PartTooLong
stamped runs OutputTooShort = OutputTooShort
stamped runs FrameTooShort = FrameTooShort
stamped runs MarkMissing = MarkMissing
stamped runs WrongLengths = WrongLengths
stamped runs WrongStation = WrongStation
stamped runs WrongNumber = WrongNumber
