-- The laws of the two calls: each undoes the other, and opening accepts exactly the sealed texts.
-- Assumes nothing.
use Rattle.std.proofs.Common.{◌≡◌, ℕ, ◌+◌, ◌-◌, ◌≤◌, Bool, true, false, cond, ltb, List, length, take, drop, Ok, Err, Result, sym, refl, ap, ◌∙◌, ap₂, arith}
use Rattle.engine.specs.Meaning.{Meaning}
use Rattle.engine.specs.Runs.{has}
use Rattle.std.proofs.ByRecursion.{All-take}
use Rattle.std.proofs.lemmas.List.{length-append, length-take-le, take-append-drop, take_at}
use Rattle.std.proofs.lemmas.Bool.{le-ltb, ltb-false}
use Rattle.suite.specs.declared.fault.SuiteFault.{SuiteFault}
use Rattle.suite.specs.declared.fault.SuiteFault.TheVariants.{InputTooLong, OutputTooShort, TagMissing, TagMismatch}
use Rattle.suite.specs.Words.{bytes_of}
use Rattle.aead.specs.Bytes.{same}
use Rattle.aead.specs.Calls.{Outcome, accepted, long, opening, out_of_runs, sealing}
use Rattle.aead.specs.Cipher.{cost, ready, sealed, tag_of, unsealed}
use Rattle.aead.specs.Laws.{AcceptsExactlySealed, Bytes, OpeningUndoesSealing, SealingUndoesOpening}
use Rattle.aead.proofs.Inverse.{bytes_plaintext, length_ciphertext, length_plaintext, opened_seals, sealed_opens}
use Rattle.aead.proofs.Same.{same_is, same_self}

-- ---- questions that were passed

-- a refusal was not chosen
passed : (b : Bool) (e : SuiteFault) (o : List ℕ) (m : Meaning) (rest : Outcome) (n : ℕ)
    → (cond b (Err e, o, m) rest).0 ≡ Ok n → (b ≡ false) × (cond b (Err e, o, m) rest ≡ rest)
passed true e o m rest n h = let z : ◌≡◌ {A = ℕ} 0 1 = cc in absurd (omega arith)
passed false e o m rest n h = (refl, refl)

-- nor was the refusal at the end
kept : (b : Bool) (e : SuiteFault) (o : List ℕ) (m : Meaning) (rest : Outcome) (n : ℕ)
    → (cond b rest (Err e, o, m)).0 ≡ Ok n → (b ≡ true) × (cond b rest (Err e, o, m) ≡ rest)
kept true e o m rest n h = (refl, refl)
kept false e o m rest n h = let z : ◌≡◌ {A = ℕ} 0 1 = cc in absurd (omega arith)

first_same : (a b : Outcome) (n : ℕ) → a ≡ b → a.0 ≡ Ok n → b.0 ≡ Ok n
first_same a b n e h = ap (λ (o : Outcome). o.0) (sym e) ∙ h

-- ---- sealing

module _ (key nonce ad : List ℕ) where
  length_sealed : (text : List ℕ) → length (sealed key nonce ad text) ≡ length text + 16
  unfolding sealed tag_of bytes_of
  length_sealed text =
      length-append _ _ ∙ ap (λ (k : ℕ). k + 16) (length_ciphertext (ready key nonce ad) text)

  seals : (text out : List ℕ) (m : Meaning) → long (length ad) (length text) ≡ false → length text + 16 ≤ length out
      → has (cost (length ad) (length text)) m ≡ true
      → sealing key nonce ad text out m ≡ accepted (cost (length ad) (length text)) (length text + 16) (sealed key nonce ad text) out m
  unfolding sealing
  seals text out m short room here = rw (short, le-ltb (length out) (length text + 16) room, here)

  -- what an accepted sealing says
  sealed_parts : (text out : List ℕ) (m : Meaning) (n : ℕ) → (sealing key nonce ad text out m).0 ≡ Ok n
      → (long (length ad) (length text) ≡ false) × (length text + 16 ≤ length out) × (has (cost (length ad) (length text)) m ≡ true)
  unfolding sealing
  sealed_parts text out m n h =
      let a = passed (long (length ad) (length text)) InputTooLong out m _ n h in
      let b = passed (ltb (length out) (length text + 16)) OutputTooShort out m _ n (first_same _ _ n a.1 h) in
      let c = kept (has (cost (length ad) (length text)) m) (out_of_runs m) _ _ _ n (first_same _ _ n (a.1 ∙ b.1) h) in
      (a.0, ltb-false (length out) (length text + 16) b.0, c.0)

  -- ---- opening

  opens : (s out : List ℕ) (m : Meaning) → 16 ≤ length s → long (length ad) (length s - 16) ≡ false → length s - 16 ≤ length out
      → has (cost (length ad) (length s - 16)) m ≡ true
      → tag_of key nonce ad (unsealed key nonce ad (take (length s - 16) s)) ≡ drop (length s - 16) s
      → opening key nonce ad s out m
      ≡ accepted (cost (length ad) (length s - 16)) (length s - 16) (unsealed key nonce ad (take (length s - 16) s)) out m
  unfolding opening
  opens s out m sixteen short room here right =
      let equal : same (tag_of key nonce ad (unsealed key nonce ad (take (length s - 16) s))) (drop (length s - 16) s) ≡ true =
      ap (λ (t : List ℕ). same t (drop (length s - 16) s)) right ∙ same_self (drop (length s - 16) s)
      in
      rw (le-ltb (length s) 16 sixteen, short, le-ltb (length out) (length s - 16) room, here, equal)

  -- what an accepted opening says
  opened_parts : (s out : List ℕ) (m : Meaning) (n : ℕ) → (opening key nonce ad s out m).0 ≡ Ok n
      → (16 ≤ length s) × (long (length ad) (length s - 16) ≡ false) × (length s - 16 ≡ n)
      × (tag_of key nonce ad (unsealed key nonce ad (take (length s - 16) s)) ≡ drop (length s - 16) s)
      × (opening key nonce ad s out m
      ≡ accepted (cost (length ad) (length s - 16)) (length s - 16) (unsealed key nonce ad (take (length s - 16) s)) out m)
  unfolding opening
  opened_parts s out m n h =
      let a = passed (ltb (length s) 16) TagMissing out m _ n h in
      let b = passed (long (length ad) (length s - 16)) InputTooLong out m _ n (first_same _ _ n a.1 h) in
      let c = passed (ltb (length out) (length s - 16)) OutputTooShort out m _ n (first_same _ _ n (a.1 ∙ b.1) h) in
      let d = kept (has (cost (length ad) (length s - 16)) m) (out_of_runs m) _ _ _ n (first_same _ _ n (a.1 ∙ b.1 ∙ c.1) h) in
      let e = kept (same (tag_of key nonce ad (unsealed key nonce ad (take (length s - 16) s))) (drop (length s - 16) s)) TagMismatch _ _ _ n
      (first_same _ _ n (a.1 ∙ b.1 ∙ c.1 ∙ d.1) h)
      in
      let whole = a.1 ∙ b.1 ∙ c.1 ∙ d.1 ∙ e.1 in
      let answer : ◌≡◌ {A = Result ℕ SuiteFault} (Ok (length s - 16)) (Ok n) = first_same _ _ n whole h in
      (ltb-false (length s) 16 a.0, b.0, cc, same_is _ _ e.0, whole)

  -- a sealed text opens
  opens_sealed : (text out : List ℕ) (m : Meaning) → Bytes text → long (length ad) (length text) ≡ false → length text ≤ length out
      → has (cost (length ad) (length text)) m ≡ true
      → opening key nonce ad (sealed key nonce ad text) out m ≡ accepted (cost (length ad) (length text)) (length text) text out m
  opens_sealed text out m bytes short room here =
      let s = sealed key nonce ad text in
      let size : length s - 16 ≡ length text = omega (arith, length_sealed text) in
      let back : unsealed key nonce ad (take (length s - 16) s) ≡ text =
      ap (λ (k : ℕ). unsealed key nonce ad (take k s)) size ∙ (sealed_opens key nonce ad text bytes).0
      in
      let right : tag_of key nonce ad (unsealed key nonce ad (take (length s - 16) s)) ≡ drop (length s - 16) s =
      ap (tag_of key nonce ad) back ∙ (sealed_opens key nonce ad text bytes).1 ∙ ap (λ (k : ℕ). drop k s) (sym size)
      in
      opens s out m (omega (arith, length_sealed text)) (ap (long (length ad)) size ∙ short) (omega (arith, size))
      (ap (λ (k : ℕ). has (cost (length ad) k) m) size ∙ here) right
      ∙ ap₂ (λ (k : ℕ) (t : List ℕ). accepted (cost (length ad) k) k t out m) size back

  -- an accepted text is sealed
  sealed_by : (s out : List ℕ) (m : Meaning) (n : ℕ) → Bytes s → (opening key nonce ad s out m).0 ≡ Ok n
      → (text : List ℕ) × Bytes text × (length text ≡ n) × (sealed key nonce ad text ≡ s)
      × (opening key nonce ad s out m ≡ accepted (cost (length ad) n) n text out m)
  unfolding unsealed
  sealed_by s out m n bytes h =
      let p = opened_parts s out m n h in
      let c = take (length s - 16) s in
      let text = unsealed key nonce ad c in
      let cut : Bytes c = All-take _ (length s - 16) s bytes in
      let count : length text ≡ n = length_plaintext (ready key nonce ad) c ∙ length-take-le (length s - 16) s (omega arith) ∙ p.2 in (
        text,
        bytes_plaintext (ready key nonce ad) c cut,
        count,
        opened_seals key nonce ad c (drop (length s - 16) s) cut p.3 ∙ take-append-drop (length s - 16) s,
        p.4 ∙ ap (λ (k : ℕ). accepted (cost (length ad) k) k text out m) p.2,
      )

-- ---- the laws

pub opening_undoes_sealing : OpeningUndoesSealing
opening_undoes_sealing key nonce ad text out out' m m' n bytes ok room here =
    let p = sealed_parts key nonce ad text out m n ok in
    let all = seals key nonce ad text out m p.0 p.1 p.2 in
    let count : ◌≡◌ {A = Result ℕ SuiteFault} (Ok (length text + 16)) (Ok n) = sym (ap (λ (o : Outcome). o.0) all) ∙ ok in
    let size : length text + 16 ≡ n = cc in
    let written : take n (sealing key nonce ad text out m).1 ≡ sealed key nonce ad text =
    ap (λ (o : Outcome). take n o.1) all
    ∙ take_at (sealed key nonce ad text) (drop (length text + 16) out) n (length_sealed key nonce ad text ∙ size)
    in
    ap (λ (s : List ℕ). opening key nonce ad s out' m') written ∙ opens_sealed key nonce ad text out' m' bytes p.0 room here

pub sealing_undoes_opening : SealingUndoesOpening
sealing_undoes_opening key nonce ad s out out' m m' n bytes ok room here =
    let q = sealed_by key nonce ad s out m n bytes ok in
    let text = q.0 in
    let p = opened_parts key nonce ad s out m n ok in
    let written : take n (opening key nonce ad s out m).1 ≡ text =
    ap (λ (o : Outcome). take n o.1) q.4 ∙ take_at text (drop n out) n q.2
    in
    ap (λ (t : List ℕ). sealing key nonce ad t out' m') written
    ∙ seals key nonce ad text out' m'
    (ap (long (length ad)) (q.2 ∙ sym p.2) ∙ p.1) (omega (arith, q.2))
    (ap (λ (k : ℕ). has (cost (length ad) k) m') q.2 ∙ here)
    ∙ ap₂ (λ (k : ℕ) (t : List ℕ). accepted (cost (length ad) k) (k + 16) t out' m') q.2 q.3

pub accepts_exactly_sealed : AcceptsExactlySealed
accepts_exactly_sealed = record { sealed_accepted = opens_sealed; accepted_sealed = sealed_by }
