-- How a call of `seal` or `open` comes out, from what its parts promise.
-- Assumes nothing.
use Rattle.std.proofs.Common.{◌≡◌, ℕ, ◌+◌, ◌-◌, ◌<◌, ◌≤◌, Bool, true, false, cond, List, ◌++◌, length, take, drop, replicate, is_ok, IfOk, Ok, Err, Result, refl, ap, ◌∙◌, arith}
use Rattle.engine.specs.Meaning.{Meaning}
use Rattle.engine.specs.Runs.{after, completed, has, paid, refusal, wiped, zero_words}
use Rattle.engine.specs.declared.fault.EngineFault.{EngineFault}
use Rattle.std.proofs.lemmas.Bool.{le-ltb, lt-ltb}
use Rattle.suite.specs.Facts.{stamped}
use Rattle.suite.specs.declared.fault.SuiteFault.{SuiteFault}
use Rattle.suite.specs.declared.fault.SuiteFault.TheVariants.{Engine, InputTooLong, OutputTooShort, TagMissing, TagMismatch}
use Rattle.aead.specs.Bytes.{same}
use Rattle.aead.specs.Calls.{Outcome, accepted, cleared, long, opening, out_of_runs, sealing, settled, verified}
use Rattle.aead.specs.Cipher.{cost, sealed, tag_of, unsealed}

-- ---- the end of a call

three : {r s : Result ℕ SuiteFault} {o p : List ℕ} {y z : Meaning} → r ≡ s → o ≡ p → y ≡ z → ◌≡◌ {A = Outcome} (r, o, y) (s, p, z)
three a b c = cc

module _ (runs n k : ℕ) (out : List ℕ) (m : Meaning) (res : Result (Unit {0}) SuiteFault) (r : Result ℕ SuiteFault) (o₁ o₂ : List ℕ)
    (y z : Meaning) (long' : length o₁ ≡ n) (spent : y ≡ after runs y.words m) (answer : r ≡ settled k (length o₁) res)
    (written : o₂ ≡ cond (is_ok res) o₁ (replicate (length o₁) 0)) (clear : z ≡ wiped y) where
  engine_left : z ≡ after runs zero_words m
  engine_left = clear ∙ ap wiped spent

  ended_ok : (new : List ℕ) → res ≡ Ok tt → o₁ ≡ new → ◌≡◌ {A = Outcome} (r, o₂ ++ drop n out, z) (accepted runs n new out m)
  ended_ok new is e =
      three (answer ∙ ap (settled k (length o₁)) is ∙ ap Ok long')
      (ap (λ (x : List ℕ). x ++ drop n out) (written ∙ ap (λ (x : Result (Unit {0}) SuiteFault). cond (is_ok x) o₁ (replicate (length o₁) 0)) is ∙ e)) engine_left

  ended_err : (e fault : SuiteFault) → res ≡ Err e → stamped k e ≡ fault
      → ◌≡◌ {A = Outcome} (r, o₂ ++ drop n out, z) (cleared runs n fault out m)
  ended_err e fault is stamp =
      three (answer ∙ ap (settled k (length o₁)) is ∙ ap Err stamp)
      (ap (λ (x : List ℕ). x ++ drop n out)
      (written ∙ ap (λ (x : Result (Unit {0}) SuiteFault). cond (is_ok x) o₁ (replicate (length o₁) 0)) is
      ∙ ap (λ (j : ℕ). replicate j 0) long'))
      engine_left

-- ---- sealing

-- an engine's refusal as one of the suite, the runs not yet put in
abbrev pub lifted : {X : Type 0} → Result X EngineFault → Result X SuiteFault
lifted (Ok x) = Ok x
lifted (Err e) = Err (Engine e 0)

module _ (key nonce ad text out : List ℕ) (m : Meaning) where
  pub seals_long : long (length ad) (length text) ≡ true → sealing key nonce ad text out m ≡ (Err InputTooLong, out, m)
  unfolding sealing
  seals_long h = rw h

  pub seals_short : long (length ad) (length text) ≡ false → length out < length text + 16 → sealing key nonce ad text out m ≡ (Err OutputTooShort, out, m)
  unfolding sealing
  seals_short h lt = rw (h, lt-ltb (length out) (length text + 16) lt)

  abbrev price : ℕ
  price = cost (length ad) (length text)

  pub seals_whole : (b : Bool) (k : ℕ) (r₁ : Result (Unit {0}) EngineFault) (r₂ : Result (Unit {0}) SuiteFault) (r : Result ℕ SuiteFault) (o₁ o₂ : List ℕ) (y z : Meaning)
      → has price m ≡ b → long (length ad) (length text) ≡ false → length text + 16 ≤ length out → length o₁ ≡ length text + 16
      → r₁ ≡ paid price m tt → IfOk r₁ (λ _. o₁ ≡ sealed key nonce ad text) → k ≡ completed m → y ≡ after price y.words m
      → r₂ ≡ lifted r₁ → r ≡ settled k (length o₁) r₂ → o₂ ≡ cond (is_ok r₂) o₁ (replicate (length o₁) 0) → z ≡ wiped y
      → ◌≡◌ {A = Outcome} (r, o₂ ++ drop (length text + 16) out, z) (sealing key nonce ad text out m)
  unfolding sealing
  seals_whole true k r₁ r₂ r o₁ o₂ y z here short room size is made' runs spent lift answer written clear =
      let ok : r₁ ≡ Ok tt = is ∙ ap (λ (b : Bool). cond b (Ok tt) (Err (refusal m))) here in
      rw (short, le-ltb (length out) (length text + 16) room, here)
      (ended_ok price (length text + 16) k out m r₂ r o₁ o₂ y z size spent answer written clear (sealed key nonce ad text)
      (lift ∙ ap lifted ok) (rw ok at made'))
  seals_whole false k r₁ r₂ r o₁ o₂ y z gone short room size is made' runs spent lift answer written clear =
      let no-runs : r₁ ≡ Err (refusal m) = is ∙ ap (λ (b : Bool). cond b (Ok tt) (Err (refusal m))) gone in
      rw (short, le-ltb (length out) (length text + 16) room, gone)
      (ended_err price (length text + 16) k out m r₂ r o₁ o₂ y z size spent answer written clear (Engine (refusal m) 0) (out_of_runs m)
      (lift ∙ ap lifted no-runs) (ap (λ (j : ℕ). Engine (refusal m) j) runs))

-- ---- opening

module _ (key nonce ad s out : List ℕ) (m : Meaning) where
  pub opens_untagged : length s < 16 → opening key nonce ad s out m ≡ (Err TagMissing, out, m)
  unfolding opening
  opens_untagged h = rw (lt-ltb (length s) 16 h)

  pub opens_long : (n : ℕ) → n + 16 ≡ length s → long (length ad) n ≡ true → opening key nonce ad s out m ≡ (Err InputTooLong, out, m)
  unfolding opening
  opens_long n at h =
      let e : length s - 16 ≡ n = omega arith in
      rw (le-ltb (length s) 16 (omega arith), e, h)

  pub opens_short : (n : ℕ) → n + 16 ≡ length s → long (length ad) n ≡ false → length out < n → opening key nonce ad s out m ≡ (Err OutputTooShort, out, m)
  unfolding opening
  opens_short n at h lt =
      let e : length s - 16 ≡ n = omega arith in
      rw (le-ltb (length s) 16 (omega arith), e, h, lt-ltb (length out) n lt)

  -- a ciphertext, its text and the tag of that
  module _ (c : List ℕ) where
    abbrev open_price : ℕ
    open_price = cost (length ad) (length c)

    abbrev text : List ℕ
    text = unsealed key nonce ad c

    abbrev tag : List ℕ
    tag = tag_of key nonce ad text

    decided : (b t : Bool) (k : ℕ) (came : List ℕ) (r₁ : Result (List ℕ) EngineFault) (r₂ : Result (Unit {0}) SuiteFault) (r : Result ℕ SuiteFault) (o₁ o₂ : List ℕ) (y z : Meaning)
        → has open_price m ≡ b → same tag came ≡ t → length o₁ ≡ length c
        → r₁ ≡ paid open_price m tag → IfOk r₁ (λ _. o₁ ≡ text) → k ≡ completed m → y ≡ after open_price y.words m
        → r₂ ≡ verified came r₁ → r ≡ settled k (length o₁) r₂ → o₂ ≡ cond (is_ok r₂) o₁ (replicate (length o₁) 0) → z ≡ wiped y
        → ◌≡◌ {A = Outcome} (r, o₂ ++ drop (length c) out, z)
        (cond b (cond t (accepted open_price (length c) text out m) (cleared open_price (length c) TagMismatch out m))
        (cleared open_price (length c) (out_of_runs m) out m))
    decided true true k came r₁ r₂ r o₁ o₂ y z here right size is made' runs spent ver answer written clear =
        let ok : r₁ ≡ Ok tag = is ∙ ap (λ (b : Bool). cond b (Ok tag) (Err (refusal m))) here in
        ended_ok open_price (length c) k out m r₂ r o₁ o₂ y z size spent answer written clear text
        (ver ∙ ap (verified came) ok ∙ ap (λ (b : Bool). cond b (Ok tt) (Err TagMismatch)) right) (rw ok at made')
    decided true false k came r₁ r₂ r o₁ o₂ y z here wrong size is made' runs spent ver answer written clear =
        let ok : r₁ ≡ Ok tag = is ∙ ap (λ (b : Bool). cond b (Ok tag) (Err (refusal m))) here in
        ended_err open_price (length c) k out m r₂ r o₁ o₂ y z size spent answer written clear TagMismatch TagMismatch
        (ver ∙ ap (verified came) ok ∙ ap (λ (b : Bool). cond b (Ok tt) (Err TagMismatch)) wrong) refl
    decided false t k came r₁ r₂ r o₁ o₂ y z gone any size is made' runs spent ver answer written clear =
        let no-runs : r₁ ≡ Err (refusal m) = is ∙ ap (λ (b : Bool). cond b (Ok tag) (Err (refusal m))) gone in
        ended_err open_price (length c) k out m r₂ r o₁ o₂ y z size spent answer written clear (Engine (refusal m) 0) (out_of_runs m)
        (ver ∙ ap (verified came) no-runs) (ap (λ (j : ℕ). Engine (refusal m) j) runs)

    pub opens_whole : (k : ℕ) (came : List ℕ) (r₁ : Result (List ℕ) EngineFault) (r₂ : Result (Unit {0}) SuiteFault) (r : Result ℕ SuiteFault) (o₁ o₂ : List ℕ) (y z : Meaning)
        → length c + 16 ≡ length s → long (length ad) (length c) ≡ false → length c ≤ length out
        → c ≡ take (length s - 16) s → came ≡ drop (length s - 16) s → length o₁ ≡ length c
        → r₁ ≡ paid open_price m tag → IfOk r₁ (λ _. o₁ ≡ text) → k ≡ completed m → y ≡ after open_price y.words m
        → r₂ ≡ verified came r₁ → r ≡ settled k (length o₁) r₂ → o₂ ≡ cond (is_ok r₂) o₁ (replicate (length o₁) 0) → z ≡ wiped y
        → ◌≡◌ {A = Outcome} (r, o₂ ++ drop (length c) out, z) (opening key nonce ad s out m)
    unfolding opening
    opens_whole k came r₁ r₂ r o₁ o₂ y z at short room cut last size is made' runs spent ver answer written clear =
        let count : length s - 16 ≡ length c = omega arith in
        rw (le-ltb (length s) 16 (omega arith), ← last, ← cut, count, short, le-ltb (length out) (length c) room)
        (decided (has open_price m) (same tag came) k came r₁ r₂ r o₁ o₂ y z refl refl size is made' runs spent ver answer written clear)
