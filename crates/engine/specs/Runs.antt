-- What the layers above say about runs, and the laws that they reason by.
-- Assumes nothing.
use Rattle.std.specs.Prelude.{◌≡◌, ℕ, ◌+◌, ◌≤◌, Bool, true, false, cond, ◌&&◌, List, [], ◌∷◌, Ok, Err, Result}
use Rattle.engine.specs.Allowance.{covers, lowered, granted}
use Rattle.engine.specs.Meaning.{Meaning, holding, permuted, rounds_allowed, run}
use Rattle.engine.specs.declared.fault.EngineFault.{EngineFault}
use Rattle.engine.specs.declared.fault.EngineFault.TheVariants.{NoRunsLeft}

-- an engine has n runs
abbrev pub has : ℕ → Meaning → Bool
has n m = covers n m.allowance

-- an engine after n runs, with the words that they and the mixing between them left
abbrev pub after : ℕ → List ℕ → Meaning → Meaning
after n ws m = record { words = ws; allowance = lowered n m.allowance; loans = m.loans }

-- the refusal that comes when an engine lacks a run
abbrev pub refusal : Meaning → EngineFault
refusal m = NoRunsLeft

-- the runs that a call has completed when it is refused one; 0 for an unlimited engine, which refuses none
abbrev pub completed : Meaning → ℕ
completed m = granted m.allowance

-- a value at the price of n runs: given if the engine has them all, else the engine's refusal
abbrev pub paid : {X : Type 0} → ℕ → Meaning → X → Result X EngineFault
paid n m v = cond (has n m) (Ok v) (Err (refusal m))

-- words that tell nothing
abbrev pub zero_words : List ℕ
zero_words = 0 ∷ 0 ∷ 0 ∷ 0 ∷ 0 ∷ []

-- the same runs left, and zero words
abbrev pub wiped : Meaning → Meaning
wiped m = holding zero_words m

-- the laws of runs
pub record RunsAddUp : Type 0 where
  -- no run is always at hand
  pub has_none : (m : Meaning) → has 0 m ≡ true
  -- n + k runs are n runs and then k
  pub has_both : (n k : ℕ) (ws : List ℕ) (m : Meaning) → has (n + k) m ≡ (has n m && has k (after n ws m))
  pub after_both : (n k : ℕ) (ws vs : List ℕ) (m : Meaning) → after k vs (after n ws m) ≡ after (n + k) vs m
  pub after_none : (m : Meaning) → after 0 m.words m ≡ m
  -- a run of allowed rounds is one run, where the engine has it
  pub run_accepted : (r : ℕ) (m : Meaning) → rounds_allowed r ≡ true → has 1 m ≡ true → run r m ≡ (Ok tt, after 1 (permuted r m.words) m)
  -- else it is refused, and nothing changes
  pub run_refused : (r : ℕ) (m : Meaning) → rounds_allowed r ≡ true → has 1 m ≡ false → run r m ≡ (Err (refusal m), m)
  -- an engine that lacks a run stays as it is, however many are asked for
  pub lacking_stays : (n : ℕ) (m : Meaning) → has 1 m ≡ false → after n m.words m ≡ m
  -- where k runs are lacking, more are too, and asking for more leaves the same
  pub lacking_more : (k n : ℕ) (m : Meaning) → k ≤ n → has k m ≡ false → has n m ≡ false
  pub lacking_after : (k n : ℕ) (ws : List ℕ) (m : Meaning) → k ≤ n → has k m ≡ false → after k ws m ≡ after n ws m
  -- which refusal comes does not depend on the runs made before
  pub refusal_same : (n : ℕ) (ws : List ℕ) (m : Meaning) → refusal (after n ws m) ≡ refusal m
  -- an engine that lacks n runs has the completed ones, and not one more
  pub completed_had : (n : ℕ) (m : Meaning) → has n m ≡ false → has (completed m) m ≡ true
  pub completed_all : (n : ℕ) (m : Meaning) → has n m ≡ false → has (completed m + 1) m ≡ false
