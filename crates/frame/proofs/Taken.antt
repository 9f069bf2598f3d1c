-- What `read_trailer` hands out, as `reading` says it.
-- Assumes nothing.
use Rattle.std.proofs.Common.{◌≡◌, ℕ, ◌+◌, ◌-◌, ◌≤◌, List, length, take, drop, Bool, true, false, cond, Some, None, Ok, sym, refl, ap, ◌∙◌, arith}
use Rattle.std.proofs.lemmas.List.{drop-take, take-take}
use Rattle.frame.specs.Reading.{Parts, fields_in, marked, parts_by, reading}
use Rattle.frame.specs.declared.trailer.Fields.{Fields}
use Rattle.frame.proofs.Framed.{reads}

given : (b : Bool) (f g : Fields) → Some g ≡ cond b (Some f) None → (b ≡ true) × (f ≡ g)
given true f g e = (refl, cc)
given false f g e = let z : ◌≡◌ {A = ℕ} 0 1 = cc in absurd (omega arith)

module _ (frame rest text tag trailer header ciphertext : List ℕ) (f : Fields) where
  -- the parts that lie before the trailer
  taken : (h b : ℕ) → rest ≡ take (h + b + 16) frame → text ≡ take (h + b) rest → tag ≡ drop (h + b) rest → header ≡ take h text → ciphertext ≡ drop h text
      → (header ≡ take h frame) × (ciphertext ≡ take b (drop h frame)) × (tag ≡ take 16 (drop (h + b) frame)) × (take (b + 16) (drop h rest) ≡ take (b + 16) (drop h frame))
  taken h b r x g e c =
      let all : text ≡ take (h + b) frame = x ∙ ap (take (h + b)) r ∙ take-take (h + b) (h + b + 16) frame (omega arith) in
      let same : h + b + 16 ≡ h + (b + 16) = omega arith in (
        e ∙ ap (take h) all ∙ take-take h (h + b) frame (omega arith),
        c ∙ ap (drop h) all ∙ drop-take h b frame,
        g ∙ ap (drop (h + b)) r ∙ drop-take (h + b) 16 frame,
        ap (λ y. take (b + 16) (drop h y)) (r ∙ ap (λ n. take n frame) same)
            ∙ ap (take (b + 16)) (drop-take h (b + 16) frame)
            ∙ take-take (b + 16) (b + 16) (drop h frame) (omega arith),
      )

  pub read_whole : rest ≡ take (length frame - 16) frame → trailer ≡ drop (length frame - 16) frame → length rest + 16 ≡ length frame
      → text ≡ take (length rest - 16) rest → tag ≡ drop (length rest - 16) rest → length text + 16 ≡ length rest
      → Some f ≡ cond (marked trailer) (Some (fields_in trailer)) None → f.header ≤ 256 → f.body ≤ 1200 → f.header + f.body ≡ length text
      → header ≡ take f.header text → ciphertext ≡ drop f.header text
      → Ok (record {
        header = header;
        ciphertext = ciphertext;
        tag = tag;
        sealed = take (length rest - f.header) (drop f.header rest);
        trailer = trailer;
        fields = f;
      })
      ≡ reading frame
  read_whole r t rl x g xl is hw bw size e c =
      let fields = given (marked trailer) (fields_in trailer) f is in
      let a : length frame - 16 ≡ f.header + f.body + 16 = omega arith in
      let b : length rest - 16 ≡ f.header + f.body = omega arith in
      let d : length frame - 32 ≡ f.header + f.body = omega arith in
      let k : length rest - f.header ≡ f.body + 16 = omega arith in
      let p = taken f.header f.body (r ∙ ap (λ n. take n frame) a) (x ∙ ap (λ n. take n rest) b) (g ∙ ap (λ n. drop n rest) b) e c in
      let same : ◌≡◌ {A = Parts} (record {
        header = header;
        ciphertext = ciphertext;
        tag = tag;
        sealed = take (length rest - f.header) (drop f.header rest);
        trailer = trailer;
        fields = f;
      }) (parts_by f frame) = λ i. record {
        header = p.0 i;
        ciphertext = p.1 i;
        tag = (p.2 ∙ ap (λ n. take 16 (drop n frame)) (sym d)) i;
        sealed = (ap (λ n. take n (drop f.header rest)) k ∙ p.3) i;
        trailer = t i;
        fields = f;
      } in
      ap Ok same
      ∙ sym (reads frame f (omega arith) (ap marked (sym t) ∙ fields.0) (ap fields_in (sym t) ∙ fields.1) hw bw (omega arith))
