-- Steps of a call that make runs one after another, and where one of them is refused.
-- Assumes nothing.
use Rattle.std.proofs.Common.{◌≡◌, ℕ, ◌+◌, ◌≤◌, IfOk, Ok, Err, Result, ap, ◌∙◌, arith}
use Rattle.engine.specs.Meaning.{Meaning}
use Rattle.engine.specs.Runs.{after, paid}
use Rattle.engine.specs.declared.fault.EngineFault.{EngineFault}
use Rattle.engine.proofs.Laws.{runs_add_up}

-- what an accepted step answers
pub paid_value : {X : Type 0} (n : ℕ) (m : Meaning) (x v : X) → Ok x ≡ paid n m v → x ≡ v
paid_value n m x v is = grind arith

-- an accepted step, and then another: the second is paid from what the first left
pub next : {X Y : Type 0} (m y : Meaning) (k n : ℕ) (u v : X) (w : Y) (prev : Result X EngineFault) (res : Result Y EngineFault)
    → y ≡ after k y.words m → prev ≡ paid k m u → prev ≡ Ok v → res ≡ paid n y w → res ≡ paid (k + n) m w
next m y k n u v w prev res left was ok is = grind (arith, runs_add_up.has_both, runs_add_up.refusal_same)

pub next_spent : (m y z : Meaning) (k n : ℕ) → y ≡ after k y.words m → z ≡ after n z.words y → z ≡ after (k + n) z.words m
next_spent m y z k n p q = q ∙ ap (after n z.words) p ∙ runs_add_up.after_both k n y.words z.words m

-- a refused step refuses the whole
pub refused : {X Y : Type 0} (m z : Meaning) (k n : ℕ) (v : X) (w : Y) (e : EngineFault) (res : Result X EngineFault)
    (out : Result Y EngineFault) (P : Y → Type 0)
    → ((x : EngineFault) × (out ≡ Err x) × (x ≡ e)) → res ≡ Err e → res ≡ paid k m v → z ≡ after k z.words m → k ≤ n
    → (out ≡ paid n m w) × IfOk out P × (z ≡ after n z.words m)
refused m z k n v w e res out P back err is left le =
    (grind (arith, runs_add_up.lacking_more), rw back.1 tt, grind (arith, runs_add_up.lacking_after))
