-- The command `permute`: load five words, make one run, read the five words.
-- Assumes nothing.
use Rattle.std.specs.Prelude.{ℕ, List, [], ◌∷◌, Ok, Err, Result, slice_index}
use Rattle.engine.specs.Meaning.{Answered, Meaning, loaded, run}
use Rattle.engine.specs.declared.fault.EngineFault.{EngineFault}

-- the words that five reads answer
abbrev pub five_read : List ℕ → List ℕ
five_read ws = slice_index ws 0 ∷ slice_index ws 1 ∷ slice_index ws 2 ∷ slice_index ws 3 ∷ slice_index ws 4 ∷ []

-- the words, where the run was accepted
abbrev pub read_after : Result (Unit {0}) EngineFault → Meaning → Result (List ℕ) EngineFault
read_after (Ok x) m = Ok (five_read m.words)
read_after (Err e) m = Err e

abbrev pub permute_once : ℕ → List ℕ → Meaning → Answered (List ℕ)
permute_once rounds ws m =
    let after : Answered (Unit {0}) = run rounds (loaded ws m) in (read_after after.0 after.1, after.1)
