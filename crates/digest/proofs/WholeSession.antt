-- Whole sessions: every split of the message and of the output gives the digest, at the price of the formula.
-- Assumes nothing.
use Rattle.std.proofs.Common.{add-zero, ◌≡◌, ℕ, ◌+◌, ◌≤◌, true, List, [], ◌∷◌, ◌++◌, length, is_ok, Ok, Err, Result, sym, refl, ap, ◌∙◌, inl, inr, arith}
use Rattle.engine.proofs.Laws.{runs_add_up}
use Rattle.engine.specs.Meaning.{Meaning}
use Rattle.engine.specs.Runs.{after, has, zero_words}
use Rattle.std.proofs.lemmas.List.{append_assoc, append-nil, length-append}
use Rattle.std.proofs.lemmas.Bool.{and_parts, cases_Bool, false≢true}
use Rattle.suite.specs.declared.fault.SuiteFault.{SuiteFault}
use Rattle.digest.specs.Laws.{CostFormulas, Gave, Took, WholeDigest, absorb_all, joined, squeeze_all, whole}
use Rattle.digest.specs.Phases.{AbsorbingPhase, SqueezingPhase, absorbing, finishing, squeezing, starting}
use Rattle.sponge.specs.Sponge.{blocks, whole_blocks}
use Rattle.digest.specs.Functions.{Function, cost, digest}
use Rattle.digest.proofs.OutputsJoin.{gave, gave_more, gave_nothing, output_accepted, output_accepts}
use Rattle.digest.proofs.PiecesJoin.{piece_accepted, piece_accepts, state, took_more, took_nothing}

abbrev Squeezed : Type 0
Squeezed = Result (Unit {0}) SuiteFault × List ℕ × SqueezingPhase

ok_is : (r : Result (Unit {0}) SuiteFault) → is_ok r ≡ true → r ≡ Ok tt
ok_is (Ok u) h = refl
ok_is (Err e) h = absurd (false≢true h)

-- an engine that has some runs has fewer
has_fewer : (k n : ℕ) (m : Meaning) → k ≤ n → has n m ≡ true → has k m ≡ true
has_fewer k n m le here =
    elim (cases_Bool (has k m)) [
      | inl had ↦ had
      | inr gone ↦ absurd (false≢true (sym (runs_add_up.lacking_more k n m le gone) ∙ here))
    ]

cost_more : (f : Function) (a b c d : ℕ) → a ≤ b → c ≤ d → cost f a c ≤ cost f b d
unfolding blocks
cost_more f a b c d p q = omega arith

-- ---- all message pieces

module _ (f : Function) (m : Meaning) where
  pub all_absorbed : (pieces : List (List ℕ)) (message : List ℕ) (s : AbsorbingPhase) → Took f m message s
      → length (message ++ joined pieces) ≤ 16777216 → has (cost f (length (message ++ joined pieces)) 0) m ≡ true
      → absorb_all pieces s ≡ (true, state f m (message ++ joined pieces))
  all_absorbed [] message s t fits here =
      grind (arith, append-nil)
  all_absorbed (piece ∷ pieces) message s t fits here =
      let e : (message ++ piece) ++ joined pieces ≡ message ++ (piece ++ joined pieces) = append_assoc message piece (joined pieces) in
      let l = length-append (message ++ piece) (joined pieces) in
      let k = ap length e in
      let enough : has (cost f (length (message ++ piece)) 0) m ≡ true = has_fewer _ _ m (cost_more f _ _ 0 0 (omega arith) (omega arith)) here in
      let step = piece_accepts f m message piece s t (omega arith) enough in
      let t' : Took f m (message ++ piece) (state f m (message ++ piece)) = record { state = refl; runs_had = enough } in
      let rest = all_absorbed pieces (message ++ piece) (state f m (message ++ piece)) t' (rw e fits) (rw e here) in
      grind arith

  pub all_took : (pieces : List (List ℕ)) (message : List ℕ) (s : AbsorbingPhase) → Took f m message s → length message ≤ 16777216
      → (absorb_all pieces s).0 ≡ true
      → (length (message ++ joined pieces) ≤ 16777216) × Took f m (message ++ joined pieces) (absorb_all pieces s).1
  all_took [] message s t fits ok =
      rw append-nil (fits, t)
  all_took (piece ∷ pieces) message s t fits ok =
      let both = and_parts (is_ok (absorbing piece s).0) (absorb_all pieces (absorbing piece s).1).0 ok in
      let yes = ok_is (absorbing piece s).0 both.0 in
      let e : (message ++ piece) ++ joined pieces ≡ message ++ (piece ++ joined pieces) = append_assoc message piece (joined pieces) in
      let rest = all_took pieces (message ++ piece) (absorbing piece s).1 (took_more f m message piece s t yes)
      (piece_accepted f m message piece s t yes).0 both.1
      in
      rw (← e) rest

-- ---- all outputs

module _ (f : Function) (m : Meaning) (message : List ℕ) where
  pub all_squeezed : (outs : List (List ℕ)) (size : ℕ) (s : SqueezingPhase) → Gave f m message size s
      → size + length (joined outs) ≤ f.limit → has (cost f (length message) (size + length (joined outs))) m ≡ true
      → ((squeeze_all outs s).0 ≡ true) × ((squeeze_all outs s).2 ≡ gave f m message (size + length (joined outs)))
      × (digest f message size ++ (squeeze_all outs s).1 ≡ digest f message (size + length (joined outs)))
  all_squeezed [] size s t fits here =
      rw (add-zero, append-nil) (refl, t.state, refl)
  all_squeezed (out ∷ outs) size s t fits here =
      let l = length-append out (joined outs) in
      let e : size + length out + length (joined outs) ≡ size + length (out ++ joined outs) = omega arith in
      let enough : has (cost f (length message) (size + length out)) m ≡ true =
      has_fewer _ _ m (cost_more f (length message) (length message) (size + length out) _ (omega arith) (omega arith)) here
      in
      let step = output_accepts f m message out size s t (omega arith) enough in
      let yes : (squeezing out s).0 ≡ Ok tt = ap (λ (x : Squeezed). x.0) step in
      let more = gave_more f m message out size s t yes in
      let rest = all_squeezed outs (size + length out) (squeezing out s).2 more.1 (rw e fits) (rw e here)
      in
      rw (← e) (grind arith, rest.1, grind (arith, append_assoc))

  pub all_gave : (outs : List (List ℕ)) (size : ℕ) (s : SqueezingPhase) → Gave f m message size s → size ≤ f.limit
      → (squeeze_all outs s).0 ≡ true
      → (size + length (joined outs) ≤ f.limit) × (has (cost f (length message) (size + length (joined outs))) m ≡ true)
  all_gave [] size s t fits ok =
      rw add-zero (fits, t.runs_had)
  all_gave (out ∷ outs) size s t fits ok =
      let l = length-append out (joined outs) in
      let e : size + length out + length (joined outs) ≡ size + length (out ++ joined outs) = omega arith in
      let both = and_parts (is_ok (squeezing out s).0) (squeeze_all outs (squeezing out s).2).0 ok in
      let yes = ok_is (squeezing out s).0 both.0 in
      let rest = all_gave outs (size + length out) (squeezing out s).2 (gave_more f m message out size s t yes).1
      (output_accepted f m message out size s t yes).0 both.1
      in
      rw (← e) rest

-- ---- a stopped session gives nothing

stopped_absorbs : (pieces : List (List ℕ)) (s : AbsorbingPhase) → s.stopped ≡ true → (absorb_all pieces s).1.stopped ≡ true
stopped_absorbs [] s h = h
stopped_absorbs (piece ∷ pieces) s h = grind (arith, stopped_absorbs pieces)

stopped_finishes : (s : AbsorbingPhase) → s.stopped ≡ true → (finishing s).stopped ≡ true
stopped_finishes s h = rw h refl

stopped_squeezes : (outs : List (List ℕ)) (s : SqueezingPhase) → s.stopped ≡ true → (squeeze_all outs s).0 ≡ true → length (joined outs) ≡ 0
stopped_squeezes [] s h ok = refl
stopped_squeezes (out ∷ outs) s h ok = absurd (grind arith)

-- ---- from start to end

module _ (f : Function) (pieces outs : List (List ℕ)) (m : Meaning) where
  abbrev message : List ℕ
  message = joined pieces

  abbrev size : ℕ
  size = length (joined outs)

  session_gives : length message ≤ 16777216 → size ≤ f.limit → has (cost f (length message) size) m ≡ true
      → whole f pieces outs m ≡ (true, digest f message size, after (cost f (length message) size) zero_words m)
  unfolding digest
  session_gives fits room here =
      let none : has f.runs m ≡ true = has_fewer _ _ m (let a : f.runs ≤ cost f (length message) size = omega arith in a) here in
      let taken : has (cost f (length message) 0) m ≡ true =
      has_fewer _ _ m (cost_more f (length message) (length message) 0 size (omega arith) (omega arith)) here
      in
      let a = all_absorbed f m pieces [] (starting f m) (took_nothing f m none) fits taken in
      let t : Took f m message (state f m message) = record { state = refl; runs_had = taken } in
      let z : 0 + size ≡ size = omega arith in
      let b = all_squeezed f m message outs 0 (finishing (state f m message)) (gave_nothing f m message _ t)
      (rw z room) (rw z here)
      in
      grind arith

  session_gave : 1 ≤ size → (whole f pieces outs m).0 ≡ true
      → (length message ≤ 16777216) × (size ≤ f.limit) × (has (cost f (length message) size) m ≡ true)
  session_gave some ok =
      let both = and_parts (absorb_all pieces (starting f m)).0 (squeeze_all outs (finishing (absorb_all pieces (starting f m)).1)).0 ok in
      elim (cases_Bool (has f.runs m)) [
        | inl none ↦
            let a = all_took f m pieces [] (starting f m) (took_nothing f m none) (omega arith) both.0 in
            let b = all_gave f m message outs 0 _ (gave_nothing f m message _ a.1) (omega arith) both.1 in
            let z : 0 + size ≡ size = omega arith in
            (a.0, omega (arith, b.0), ap (λ (n : ℕ). has (cost f (length message) n) m) (sym z) ∙ b.1)
        | inr gone ↦
            let s : (starting f m).stopped ≡ true = rw gone refl in
            let taken : AbsorbingPhase = (absorb_all pieces (starting f m)).1 in
            absurd (grind (arith, stopped_squeezes outs (finishing taken) (stopped_finishes taken (stopped_absorbs pieces (starting f m) s)) both.1))
      ]

pub whole_digest : WholeDigest
whole_digest = record { digest_given = session_gives; only_there = session_gave }

pub cost_formulas : CostFormulas
unfolding blocks whole_blocks
cost_formulas = record { of_hash256 = λ m l. refl; of_xof128 = λ m l. refl; of_cxof128 = λ custom m l. omega arith }
