-- What an engine means, and what each of its five calls answers and leaves.
-- Assumes nothing.
use Rattle.std.specs.Prelude.{ℕ, Bool, false, cond, List, Ok, Err, Result, bit_xor, nat_le, nat_lt, slice_index, slice_set}
pub use Rattle.permutation.specs.Permutation.{permuted}
use Rattle.engine.specs.Allowance.{covers, lowered}
use Rattle.engine.specs.declared.allowance.Allowance.{Allowance}
use Rattle.engine.specs.declared.fault.EngineFault.{EngineFault}
use Rattle.engine.specs.declared.fault.EngineFault.TheVariants.{NoSuchWord, RoundsOutOfRange, NoRunsLeft}

-- the five words and the allowance; beside them the loans that the engine is reached through, which no call changes
pub record Meaning : Type 0 where
  pub words : List ℕ
  pub allowance : Allowance
  pub loans : List ℕ

-- the ghost members of an implementation, joined
abbrev pub joined : {E : Type 0} → (E → List ℕ) → (E → Allowance) → (E → List ℕ) → E → Meaning
joined words allowance loans e = record { words = words e; allowance = allowance e; loans = loans e }

-- the same engine with other words
abbrev pub holding : List ℕ → Meaning → Meaning
holding ws m = record { words = ws; allowance = m.allowance; loans = m.loans }

-- what a call answers, and what it leaves
abbrev pub Answered : Type 0 → Type 0
Answered T = Result T EngineFault × Meaning

-- load sets the five words
abbrev pub loaded : List ℕ → Meaning → Meaning
loaded ws m = holding ws m

-- a value XORed into the word at a place (shut, since it names the words twice and a chain of these would double with each)
unfoldable pub mixed : ℕ → ℕ → List ℕ → List ℕ
mixed place value ws = slice_set ws place (bit_xor (slice_index ws place) value)

-- mix: is the place below 5?
abbrev pub mix : ℕ → ℕ → Meaning → Answered (Unit {0})
mix place value m = cond (nat_lt place 5) (Ok tt, holding (mixed place value m.words) m) (Err NoSuchWord, m)

-- read: is the place below 5?
abbrev pub read : ℕ → Meaning → Result ℕ EngineFault
read place m = cond (nat_lt place 5) (Ok (slice_index m.words place)) (Err NoSuchWord)

-- a run makes 1 to 16 rounds
abbrev pub rounds_allowed : ℕ → Bool
rounds_allowed rounds = cond (nat_lt 0 rounds) (nat_le rounds 16) false

-- an accepted run: the words permuted, a numbered allowance lowered by 1
abbrev pub ran : ℕ → Meaning → Meaning
ran rounds m = record { words = permuted rounds m.words; allowance = lowered 1 m.allowance; loans = m.loans }

-- run: are the rounds 1 to 16? is the allowance above 0?
abbrev pub run : ℕ → Meaning → Answered (Unit {0})
run rounds m =
    cond (rounds_allowed rounds) (cond (covers 1 m.allowance) (Ok tt, ran rounds m) (Err NoRunsLeft, m)) (Err RoundsOutOfRange, m)
