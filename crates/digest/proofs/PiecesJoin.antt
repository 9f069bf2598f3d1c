-- A started session has taken the empty message, and an accepted piece joins the message.
-- Assumes nothing.
use Rattle.std.proofs.Common.{◌≡◌, ℕ, ◌+◌, ◌≤◌, true, List, [], ◌++◌, length, Ok, arith}
use Rattle.engine.proofs.Laws.{runs_add_up}
use Rattle.engine.specs.Meaning.{Meaning}
use Rattle.engine.specs.Runs.{after, has}
use Rattle.std.proofs.lemmas.List.{length-append}
use Rattle.std.proofs.lemmas.Bool.Decides.{nat_tests}
use Rattle.digest.specs.Laws.{PiecesJoin, Took}
use Rattle.digest.specs.Phases.{AbsorbingPhase, absorbing, starting, taking}
use Rattle.sponge.specs.Sponge.{absorbed, blocks, rest_of, whole_blocks}
use Rattle.digest.specs.Functions.{Function, cost}
use Rattle.sponge.proofs.Joining.{absorbed_joined, rest_joined, whole_joined}

-- a session that has taken this message
abbrev pub state : Function → Meaning → List ℕ → AbsorbingPhase
state f m message = taking f.limit (rest_of message) (length message) (after (cost f (length message) 0) (absorbed f.start message) m)

pub took_nothing : (f : Function) (m : Meaning) → has f.runs m ≡ true → Took f m [] (starting f m)
unfolding rest_of whole_blocks absorbed blocks
took_nothing f m here =
    let e : f.runs ≡ cost f 0 0 = omega arith in
    record { state = grind arith; runs_had = grind arith }

module _ (f : Function) (m : Meaning) (message piece : List ℕ) (s : AbsorbingPhase) (t : Took f m message s) where
  price : cost f (length message) 0 + whole_blocks (rest_of message ++ piece) ≡ cost f (length (message ++ piece)) 0
  unfolding blocks whole_blocks
  price = let c = whole_joined message piece in omega arith

  -- accepted within the limit where the engine has the runs, and only there
  pub piece_accepts : length (message ++ piece) ≤ 16777216 → has (cost f (length (message ++ piece)) 0) m ≡ true
      → absorbing piece s ≡ (Ok tt, state f m (message ++ piece))
  piece_accepts fits here =
      let e = price in
      grind (arith, nat_tests, length-append, rest_joined, absorbed_joined, runs_add_up.has_both, runs_add_up.after_both)

  pub piece_accepted : (absorbing piece s).0 ≡ Ok tt
      → (length (message ++ piece) ≤ 16777216) × (has (cost f (length (message ++ piece)) 0) m ≡ true)
  piece_accepted ok =
      let e = price in
      (grind (arith, nat_tests, length-append), grind (arith, nat_tests, length-append, runs_add_up.has_both))

  pub took_more : (absorbing piece s).0 ≡ Ok tt → Took f m (message ++ piece) (absorbing piece s).1
  took_more ok =
      let a = piece_accepted ok in
      let e = piece_accepts a.0 a.1 in
      record { state = cc; runs_had = a.1 }

pub pieces_join : PiecesJoin
pieces_join = record { empty_message = took_nothing; longer_message = took_more }
