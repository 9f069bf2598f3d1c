-- A finished session has given nothing, and an accepted output piece is the digest's next part.
-- Assumes nothing.
use Rattle.std.proofs.Common.{◌≡◌, ℕ, ◌+◌, ◌≤◌, true, List, ◌++◌, length, Ok, ap, arith}
use Rattle.engine.proofs.Laws.{runs_add_up}
use Rattle.engine.specs.Meaning.{Meaning}
use Rattle.engine.specs.Runs.{after, has}
use Rattle.std.proofs.lemmas.Bool.Decides.{nat_tests}
use Rattle.digest.specs.Laws.{Gave, OutputsJoin, Took}
use Rattle.sponge.specs.Steps.{bytes_next, runs_to}
use Rattle.digest.specs.Phases.{AbsorbingPhase, SqueezingPhase, finishing, giving, squeezing}
use Rattle.sponge.specs.Sponge.{after_message, after_runs, blocks}
use Rattle.digest.specs.Functions.{Function, cost, digest}
use Rattle.digest.proofs.DigestBytes.{digest_bytes}
use Rattle.sponge.proofs.Squeezed.{bytes_joined, runs_after}

-- a session that has given so many bytes
abbrev pub gave : Function → Meaning → List ℕ → ℕ → SqueezingPhase
gave f m message size =
    giving f.limit size (after (cost f (length message) size) (after_runs (blocks size) (after_message f.start message)) m)

pub gave_nothing : (f : Function) (m : Meaning) (message : List ℕ) (s : AbsorbingPhase) → Took f m message s → Gave f m message 0 (finishing s)
unfolding after_message blocks
gave_nothing f m message s t = record { state = ap finishing t.state; runs_had = t.runs_had }

module _ (f : Function) (m : Meaning) (message out : List ℕ) (size : ℕ) (s : SqueezingPhase) (t : Gave f m message size s) where
  abbrev start : List ℕ
  start = after_message f.start message

  abbrev runs : ℕ
  runs = runs_to size (size + length out)

  more_blocks : blocks size + runs ≡ blocks (size + length out)
  unfolding runs_to blocks
  more_blocks = omega arith

  abbrev bytes : List ℕ
  bytes = bytes_next (length out) (after_runs (blocks size) start) size

  pub output_accepts : size + length out ≤ f.limit → has (cost f (length message) (size + length out)) m ≡ true
      → squeezing out s ≡ (Ok tt, bytes, gave f m message (size + length out))
  output_accepts fits here =
      let e = more_blocks in
      grind (arith, nat_tests, runs_after, runs_add_up.has_both, runs_add_up.after_both)

  pub output_accepted : (squeezing out s).0 ≡ Ok tt
      → (size + length out ≤ f.limit) × (has (cost f (length message) (size + length out)) m ≡ true)
  output_accepted ok =
      let e = more_blocks in
      (grind (arith, nat_tests), grind (arith, nat_tests, runs_add_up.has_both))

  -- the bytes stand behind those given before
  bytes_follow : digest f message size ++ bytes ≡ digest f message (size + length out)
  unfolding runs_to blocks
  bytes_follow =
      let e : runs_to 0 (0 + size) ≡ blocks size = omega arith in
      let a = digest_bytes f message size in
      let b = bytes_joined size (length out) start 0 in
      let d = digest_bytes f message (size + length out) in
      grind arith

  pub gave_more : (squeezing out s).0 ≡ Ok tt
      → (digest f message size ++ (squeezing out s).1 ≡ digest f message (size + length out))
      × Gave f m message (size + length out) (squeezing out s).2
  gave_more ok =
      let a = output_accepted ok in
      let e = output_accepts a.0 a.1 in
      let b = bytes_follow in
      (cc, record { state = cc; runs_had = a.1 })

pub outputs_join : OutputsJoin
outputs_join = record { no_output = gave_nothing; longer_output = gave_more }
