-- Which of its two states a session is in.
-- Assumes nothing.
use Rattle.std.specs.Prelude.{Bool, true, false}
use Rattle.clients.specs.declared.either.Session.{Session}
use Rattle.clients.specs.declared.either.Session.TheVariants.{Giving, Taking}

abbrev pub gives : {E : Type 0} → Session E → Bool
gives (Taking s) = false
gives (Giving s) = true
