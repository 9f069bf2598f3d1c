-- An engine after some bytes of output, and after more of them.
-- Assumes nothing.
use Rattle.std.proofs.Common.{◌≡◌, ℕ, add-zero, ◌+◌, ◌-◌, ◌/◌, true, List, [], ◌∷◌, ◌++◌, refl, add-one}
use Rattle.std.proofs.lemmas.List.{take_all, take_more_set}
use Rattle.engine.specs.Meaning.{Meaning}
use Rattle.engine.specs.Runs.{after, has}
use Rattle.sponge.specs.Steps.{byte_at, bytes_next, runs_to}
use Rattle.sponge.specs.Sponge.{after_runs, blocks}
use Rattle.sponge.proofs.Squeezed.{byte_later, runs_after, runs_joined}

-- From place a on an engine that meant m has given n bytes; it means y now.
pub record Given (m : Meaning) (a n : ℕ) (y : Meaning) : Type 0 where
  pub engine_is : y ≡ after (runs_to a (a + n)) (after_runs (runs_to a (a + n)) m.words) m
  pub runs_had : has (runs_to a (a + n)) m ≡ true

pub runs_are : (a b : ℕ) → runs_to a b ≡ (b + 7) / 8 - (a + 7) / 8
unfolding runs_to blocks
runs_are a b = refl

pub same_words : (n : ℕ) (ws : List ℕ) → n ≡ 0 → after_runs n ws ≡ ws
same_words n ws e = rw e refl

pub byte_here : (ws : List ℕ) (a n : ℕ) → byte_at (after_runs (runs_to a (a + n)) ws) (a + n) (a + n) ≡ byte_at ws a (a + n)
byte_here ws a n = simp add-zero at (byte_later ws a n 0)

pub bytes_more : (n : ℕ) (ws : List ℕ) (a : ℕ) → bytes_next (n + 1) ws a ≡ bytes_next n ws a ++ byte_at ws a (a + n) ∷ []
bytes_more n ws a = rw add-one refl

-- no byte given
pub ruleset none_given = (runs_are, same_words)

-- one byte more
pub ruleset more_given = (runs_are, runs_after, byte_here, bytes_more, take_more_set)
