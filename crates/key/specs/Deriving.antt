-- Drawing the key of a link: the answer, and the engine afterwards.
-- Assumes nothing.
use Rattle.std.specs.Prelude.{◌≡◌, ℕ, ◌+◌, ◌/◌, cond, List, length, Ok, Err, Result}
use Rattle.engine.specs.Meaning.{Meaning}
use Rattle.engine.specs.Runs.{after, has, zero_words}
use Rattle.digest.specs.Functions.{cost, cxof128, digest}
use Rattle.suite.specs.Facts.{out_of_runs}
use Rattle.suite.specs.declared.fault.SuiteFault.{SuiteFault}

-- 16 bytes of CXOF128 over the secret, customized by the name, if the engine has the runs, else its refusal with the runs completed; either
-- way zero words, and the runs spent
abbrev pub deriving_key : (secret name : List ℕ) → Meaning → Result (List ℕ) SuiteFault × Meaning
deriving_key secret name m =
    let runs = cost (cxof128 name) 32 16 in
    (cond (has runs m) (Ok (digest (cxof128 name) secret 16)) (Err (out_of_runs m)), after runs zero_words m)

-- the cost in numbers: 9 runs, and one for each whole block of the name
pub record KnownCost : Type 0 where
  pub of_name : (name : List ℕ) → cost (cxof128 name) 32 16 ≡ 9 + length name / 8
  pub of_eight_bytes : (name : List ℕ) → length name ≡ 8 → cost (cxof128 name) 32 16 ≡ 10
