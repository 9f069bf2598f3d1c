-- What the calls of the session come to: accepted just where the engine has the runs of the whole, the engine left, and the key.
-- Assumes nothing.
use Rattle.std.proofs.Common.{◌≡◌, ℕ, true, false, List, [], ◌∷◌, length, is_ok, Result, arith}
use Rattle.std.proofs.lemmas.List.{append-nil}
use Rattle.engine.proofs.Laws.{runs_add_up}
use Rattle.engine.specs.Meaning.{Meaning}
use Rattle.engine.specs.Runs.{after, has, zero_words}
use Rattle.sponge.specs.Sponge.{blocks, whole_blocks}
use Rattle.sponge.specs.Steps.{runs_to}
use Rattle.digest.specs.Functions.{Function, cost, cxof128, digest}
use Rattle.digest.proofs.WholeSession.{whole_digest}
use Rattle.suite.specs.declared.fault.SuiteFault.{SuiteFault}
use Rattle.key.specs.Deriving.{KnownCost}
use Rattle.key.specs.Steps.{filling}

pub known_cost : KnownCost
unfolding blocks whole_blocks
known_cost = record { of_name = λ name. omega arith; of_eight_bytes = λ name long. omega arith }

module _ (secret name key : List ℕ) (m : Meaning) (secret_long : length secret ≡ 32) (key_long : length key ≡ 16) where
  abbrev f : Function
  f = cxof128 name

  abbrev runs : ℕ
  runs = cost f 32 16

  abbrev filled : Result (Unit {0}) SuiteFault × List ℕ × Meaning
  filled = filling secret name key m

  refused : has runs m ≡ false → (is_ok filled.0 ≡ false) × (filled.2 ≡ after runs zero_words m)
  unfolding filling whole_blocks runs_to blocks
  refused lacks =
      grind (arith, runs_add_up.has_both, runs_add_up.after_both, runs_add_up.lacking_after)

  accepted : has runs m ≡ true → (is_ok filled.0 ≡ true) × (filled.1 ≡ digest f secret 16) × (filled.2 ≡ after runs zero_words m)
  unfolding filling
  accepted had = grind (arith, whole_digest.digest_given f (secret ∷ []) (key ∷ []) m, append-nil)

  pub accepted_where : is_ok filled.0 ≡ has runs m
  accepted_where = grind (arith, accepted, refused)

  pub engine_left : filled.2 ≡ after runs zero_words m
  engine_left = grind (arith, accepted, refused)

  pub key_given : is_ok filled.0 ≡ true → filled.1 ≡ digest f secret 16
  key_given ok = grind (arith, accepted, accepted_where)
