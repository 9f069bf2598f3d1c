-- What `array::from_fn` makes where the calls leave the closure as it is.
-- Assumes nothing.
use Rattle.std.proofs.Common.{◌≡◌, ℕ, zero, suc, ◌+◌, ◌<◌, List, get_or, subst, ◌∙◌, arith}
use Rattle.std.specs.Array.{IsFromFnResultFrom}
use Rattle.std.specs.Fn.{Called, Mut}

pub made_by : {F : Type 0} (g : Mut F (ℕ × Unit {0}) ℕ) (h : ℕ → ℕ) (f : F) → ((x y : ℕ) (q : F) → Called g f (x, tt) y q → (q ≡ f) × (y ≡ h x))
    → (ys : List ℕ) (i n k j : ℕ) → IsFromFnResultFrom g f ys i n → k < n → i + k ≡ j → get_or ys j 0 ≡ h j
made_by g h f step ys i zero k j made lt at = absurd (omega arith)
made_by g h f step ys i (suc n) zero j made lt at =
    let e : j ≡ i = omega arith in rw e (made.2.1 0 ∙ (step i made.1 made.0 made.3).1)
made_by g h f step ys i (suc n) (suc k) j made lt at =
    let rest = subst (λ q. IsFromFnResultFrom g q ys (i + 1) n) (step i made.1 made.0 made.3).0 made.4 in
    made_by g h f step ys (i + 1) n k j rest (omega arith) (omega arith)
