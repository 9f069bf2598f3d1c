-- What an engine means, by the ghost members of its implementation: the form in which clients speak of it.
-- Assumes nothing.
use Rattle.engine.specs.Meaning.{Meaning, joined}
use Rattle.engine.specs.declared.interface.Engine.{Ghosts}

abbrev pub meaning : {E : Type 0} → Ghosts E → E → Meaning
meaning g e = joined g.words g.allowance g.loans e
