-- Allowances: a number of runs, or no limit.
-- Assumes nothing.
use Rattle.std.specs.Prelude.{ℕ, ◌-◌, min, Bool, true, nat_le}
use Rattle.engine.specs.declared.allowance.Allowance.{Allowance}
use Rattle.engine.specs.declared.allowance.Allowance.TheVariants.{Limited, Unlimited}

-- whether an allowance covers n runs
abbrev pub covers : ℕ → Allowance → Bool
covers n (Limited a) = nat_le n a
covers n Unlimited = true

-- what n runs leave of an allowance; one that does not cover them is used up
abbrev pub lowered : ℕ → Allowance → Allowance
lowered n (Limited a) = Limited (a - n)
lowered n Unlimited = Unlimited

-- the smaller of a count and an allowance
abbrev pub smaller : ℕ → Allowance → Allowance
smaller count (Limited a) = Limited (min count a)
smaller count Unlimited = Limited count

-- all the runs of a numbered allowance; an unlimited one is never used up
abbrev pub granted : Allowance → ℕ
granted (Limited a) = a
granted Unlimited = 0
