-- What pieces come to over a whole session: the digest of the joined message, at the price of the joined message and output.
-- Assumes nothing.
use Rattle.std.specs.Prelude.{◌≡◌, ℕ, ◌+◌, ◌/◌, ◌≤◌, Bool, true, ◌&&◌, List, [], ◌∷◌, ◌++◌, length, is_ok, Ok}
use Rattle.engine.specs.Meaning.{Meaning}
use Rattle.engine.specs.Runs.{after, has, wiped, zero_words}
use Rattle.digest.specs.Phases.{AbsorbingPhase, SqueezingPhase, absorbing, finishing, giving, squeezing, starting, taking}
use Rattle.sponge.specs.Sponge.{absorbed, after_message, after_runs, blocks, rest_of}
use Rattle.digest.specs.Functions.{Function, cost, cxof128, digest, hash256, xof128}

-- ---- piece by piece

-- A session of f began on an engine that meant m, was never refused a run, and has taken this message.
pub record Took (f : Function) (m : Meaning) (message : List ℕ) (s : AbsorbingPhase) : Type 0 where
  pub state : s ≡ taking f.limit (rest_of message) (length message) (after (cost f (length message) 0) (absorbed f.start message) m)
  pub runs_had : has (cost f (length message) 0) m ≡ true

-- It was finished, and has given so many bytes.
pub record Gave (f : Function) (m : Meaning) (message : List ℕ) (size : ℕ) (s : SqueezingPhase) : Type 0 where
  pub state : s
      ≡ giving f.limit size (after (cost f (length message) size) (after_runs (blocks size) (after_message f.start message)) m)
  pub runs_had : has (cost f (length message) size) m ≡ true

-- a started session has taken the empty message; an accepted piece joins the message
pub record PiecesJoin : Type 0 where
  pub empty_message : (f : Function) (m : Meaning) → has f.runs m ≡ true → Took f m [] (starting f m)
  pub longer_message : (f : Function) (m : Meaning) (message piece : List ℕ) (s : AbsorbingPhase) → Took f m message s
      → (absorbing piece s).0 ≡ Ok tt → Took f m (message ++ piece) (absorbing piece s).1

-- a finished session has given nothing; an accepted output piece is the digest's next part
pub record OutputsJoin : Type 0 where
  pub no_output : (f : Function) (m : Meaning) (message : List ℕ) (s : AbsorbingPhase) → Took f m message s
      → Gave f m message 0 (finishing s)
  pub longer_output : (f : Function) (m : Meaning) (message out : List ℕ) (size : ℕ) (s : SqueezingPhase) → Gave f m message size s
      → (squeezing out s).0 ≡ Ok tt
      → (digest f message size ++ (squeezing out s).1 ≡ digest f message (size + length out))
      × Gave f m message (size + length out) (squeezing out s).2

-- ---- whole sessions

-- bytes in pieces, joined
abbrev pub joined : List (List ℕ) → List ℕ
joined [] = []
joined (piece ∷ pieces) = piece ++ joined pieces

-- message pieces one after another: whether all are accepted, and the session afterwards
abbrev pub absorb_all : List (List ℕ) → AbsorbingPhase → Bool × AbsorbingPhase
absorb_all [] s = (true, s)
absorb_all (piece ∷ pieces) s =
    (is_ok (absorbing piece s).0 && (absorb_all pieces (absorbing piece s).1).0, (absorb_all pieces (absorbing piece s).1).1)

-- outputs filled one after another: whether all are accepted, what they then hold, joined, and the session afterwards
abbrev pub squeeze_all : List (List ℕ) → SqueezingPhase → Bool × List ℕ × SqueezingPhase
squeeze_all [] s = (true, [], s)
squeeze_all (out ∷ outs) s =
    let next = squeeze_all outs (squeezing out s).2 in (is_ok (squeezing out s).0 && next.0, (squeezing out s).1 ++ next.1, next.2)

-- a session from start to end: whether every piece is accepted, the outputs joined, and the engine given back
abbrev pub whole : Function → (pieces outs : List (List ℕ)) → Meaning → Bool × List ℕ × Meaning
whole f pieces outs m =
    let message = absorb_all pieces (starting f m) in
    let output = squeeze_all outs (finishing message.1) in
    (message.0 && output.0, output.1, wiped output.2.engine)

-- Within the limits and where the engine has the runs, every piece is accepted, the joined output is the digest of the joined message,
-- and the engine has made the runs that the formula says. Where any output is asked for, every piece is accepted only there.
pub record WholeDigest : Type 0 where
  pub digest_given : (f : Function) (pieces outs : List (List ℕ)) (m : Meaning) → length (joined pieces) ≤ 16777216
      → length (joined outs) ≤ f.limit → has (cost f (length (joined pieces)) (length (joined outs))) m ≡ true
      → whole f pieces outs m
      ≡ (
        true,
        digest f (joined pieces) (length (joined outs)),
        after (cost f (length (joined pieces)) (length (joined outs))) zero_words m,
      )
  pub only_there : (f : Function) (pieces outs : List (List ℕ)) (m : Meaning) → 1 ≤ length (joined outs)
      → (whole f pieces outs m).0 ≡ true
      → (length (joined pieces) ≤ 16777216) × (length (joined outs) ≤ f.limit)
      × (has (cost f (length (joined pieces)) (length (joined outs))) m ≡ true)

-- the costs in numbers: a run to start, one for each whole block of the message, one for each block of output that is begun, and
-- 2 and one for each whole block of a customization
pub record CostFormulas : Type 0 where
  pub of_hash256 : (m l : ℕ) → cost hash256 m l ≡ 1 + m / 8 + (l + 7) / 8
  pub of_xof128 : (m l : ℕ) → cost xof128 m l ≡ 1 + m / 8 + (l + 7) / 8
  pub of_cxof128 : (custom : List ℕ) (m l : ℕ) → cost (cxof128 custom) m l ≡ 1 + m / 8 + (l + 7) / 8 + (2 + length custom / 8)
