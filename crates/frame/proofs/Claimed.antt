-- What a frame that reads is made of.
-- Assumes nothing.
use Rattle.std.proofs.Common.{◌≡◌, ℕ, ◌+◌, ◌-◌, ◌≤◌, List, [], ◌∷◌, ◌++◌, length, take, drop, get_or, Bool, true, false, cond, not, nat_lt, Ok, Err, Result, sym, refl, subst, ap, take-add, ◌∙◌, ap₂, drop-cons, arith}
use Rattle.std.proofs.lemmas.Bool.{and_parts, eqb-true, leb-true, ltb-false, not-false}
use Rattle.std.proofs.lemmas.List.{drop-drop, drop_all, length-drop, length-take-le, take-append-drop}
use Rattle.aead.specs.Laws.{Bytes}
use Rattle.frame.specs.Bytes.{bytes_high_first, number_of}
use Rattle.frame.specs.Frame.{trailer}
use Rattle.frame.specs.Laws.{MadeOf, NoByteUnclaimed}
use Rattle.frame.specs.Reading.{Parts, fields_in, fitting, marked, parts_by, reading, trailer_in}
use Rattle.frame.specs.declared.fault.LinkFault.{LinkFault}
use Rattle.frame.specs.declared.fault.LinkFault.TheVariants.{FrameTooShort, MarkMissing, WrongLengths}
use Rattle.frame.proofs.Framed.{reads_back}
use Rattle.frame.proofs.Numbers.{bytes_drop, bytes_of_number, bytes_take, number_below}

-- a question that was passed
passed : (b : Bool) (e : LinkFault) (x : Result Parts LinkFault) (p : Parts) → cond b (Err e) x ≡ Ok p → (b ≡ false) × (x ≡ Ok p)
passed true e x p h = let z : ◌≡◌ {A = ℕ} 0 1 = cc in absurd (omega arith)
passed false e x p h = (refl, h)

-- what the questions said of a frame that reads
record Read (frame : List ℕ) (p : Parts) : Type 0 where
  long : 32 ≤ length frame
  mark : marked (trailer_in frame) ≡ true
  header_within : (fields_in (trailer_in frame)).header ≤ 256
  body_within : (fields_in (trailer_in frame)).body ≤ 1200
  size : (fields_in (trailer_in frame)).header + (fields_in (trailer_in frame)).body + 32 ≡ length frame
  parts : parts_by (fields_in (trailer_in frame)) frame ≡ p

read_from : (frame : List ℕ) (p : Parts) → reading frame ≡ Ok p → Read frame p
read_from frame p e =
    let t = trailer_in frame in
    let f = fields_in t in
    let a = passed (nat_lt (length frame) 32) FrameTooShort _ p e in
    let b = passed (not (marked t)) MarkMissing _ p a.1 in
    let d = passed (not (fitting f (length frame))) WrongLengths _ p b.1 in
    let m = and_parts _ _ (not-false (fitting f (length frame)) d.0) in
    let n = and_parts _ _ m.0 in
    let is : ◌≡◌ {A = Result Parts LinkFault} (Ok (parts_by f frame)) (Ok p) = d.1 in
    record {
      long = ltb-false (length frame) 32 a.0;
      mark = not-false (marked t) b.0;
      header_within = leb-true f.header 256 n.0;
      body_within = leb-true f.body 1200 n.1;
      size = eqb-true (f.header + f.body + 32) (length frame) m.1;
      parts = cc;
    }

-- sixteen bytes that end in the mark are the trailer of what they say
trailer_of : (t : List ℕ) → length t ≡ 16 → Bytes t → marked t ≡ true → trailer (fields_in t) ≡ t
trailer_of t l bs m =
    let ms = and_parts _ _ m in
    let a : get_or t 14 0 ≡ 0xa5 = eqb-true _ _ ms.0 in
    let b : get_or t 15 0 ≡ 0x01 = eqb-true _ _ ms.1 in
    let part : (n k : ℕ) → n + k ≤ 16 → bytes_high_first k (number_of (take k (drop n t))) ≡ take k (drop n t) =
    λ n k h. bytes_of_number k (take k (drop n t)) (length-take-le k (drop n t) (simp length-drop (omega arith))) (bytes_take k (drop n t) (bytes_drop n t bs))
    in
    let end : drop 14 t ≡ 0xa5 ∷ 0x01 ∷ [] =
    drop-cons t 14 0 (omega arith)
    ∙ ap₂ {C = List ℕ} (λ x xs. x ∷ xs) a
    (drop-cons t 15 0 (omega arith) ∙ ap₂ {C = List ℕ} (λ x xs. x ∷ xs) b (drop_all 16 t (omega arith)))
    in
    ap₂ ◌++◌
    (ap₂ ◌++◌
    (ap₂ ◌++◌ (ap₂ ◌++◌ (part 0 6 (omega arith)) (part 6 4 (omega arith)) ∙ sym (take-add 6 4 t)) (part 10 2 (omega arith)) ∙ sym (take-add 10 2 t))
    (part 12 2 (omega arith))
    ∙ sym (take-add 12 2 t))
    (sym end)
    ∙ take-append-drop 14 t

made_of : (frame : List ℕ) (p : Parts) → Bytes frame → reading frame ≡ Ok p → MadeOf frame p
made_of frame p bytes e =
    let r = read_from frame p e in
    let t = trailer_in frame in
    let f = fields_in t in
    let long = r.long in
    let size = r.size in
    let q = parts_by f frame in
    let all : Bytes t = bytes_drop (length frame - 16) frame bytes in
    let sixteen : length t ≡ 16 = simp length-drop (omega arith) in
    let last : trailer f ≡ t = trailer_of t sixteen all r.mark in
    let at : length frame - 32 ≡ f.header + f.body = omega arith in
    let behind : length frame - 16 ≡ f.header + f.body + 16 = omega arith in
    let made : MadeOf frame q = record {
      whole =
          sym
          (ap (λ x. take f.header frame ++ take f.body (drop f.header frame) ++ take 16 (drop (length frame - 32) frame) ++ x) last
          ∙ ap₂ (λ x y. take f.header frame ++ take f.body (drop f.header frame) ++ take 16 (drop x frame) ++ drop y frame) at behind
          ∙ ap (λ x. x ++ take 16 (drop (f.header + f.body) frame) ++ drop (f.header + f.body + 16) frame) (sym (take-add f.header f.body frame))
          ∙ ap (λ x. x ++ drop (f.header + f.body + 16) frame) (sym (take-add (f.header + f.body) 16 frame))
          ∙ take-append-drop (f.header + f.body + 16) frame);
      trailer_is = sym last;
      sealed_is =
          take-add f.body 16 (drop f.header frame)
          ∙ ap (λ x. take f.body (drop f.header frame) ++ take 16 x) (drop-drop f.body f.header frame ∙ ap (λ k. drop k frame) (sym at));
      header_length = length-take-le f.header frame (omega arith);
      body_length = length-take-le f.body (drop f.header frame) (simp length-drop (omega arith));
      tag_length = length-take-le 16 (drop (length frame - 32) frame) (simp length-drop (omega arith));
      header_within = r.header_within;
      body_within = r.body_within;
      named = (
        omega (arith, number_below 4 (take 4 (drop 6 t)) (length-take-le 4 (drop 6 t) (simp length-drop (omega arith))) (bytes_take 4 (drop 6 t) (bytes_drop 6 t all))),
        omega (arith, number_below 6 (take 6 t) (length-take-le 6 t (omega arith)) (bytes_take 6 t all)),
      );
    } in
    subst (λ (x : Parts). MadeOf frame x) r.parts made

reads_as : (frame : List ℕ) (p : Parts) → MadeOf frame p → reading frame ≡ Ok p
reads_as frame p m =
    let same : ◌≡◌ {A = Parts} (record {
      header = p.header;
      ciphertext = p.ciphertext;
      tag = p.tag;
      sealed = p.ciphertext ++ p.tag;
      trailer = trailer p.fields;
      fields = p.fields;
    }) p = λ i. record {
      header = p.header;
      ciphertext = p.ciphertext;
      tag = p.tag;
      sealed = sym m.sealed_is i;
      trailer = sym m.trailer_is i;
      fields = p.fields;
    } in
    ap reading m.whole
    ∙ reads_back p.header p.ciphertext p.tag p.fields m.named m.header_length m.body_length m.tag_length m.header_within m.body_within
    ∙ ap Ok same

pub no_byte_unclaimed : NoByteUnclaimed
no_byte_unclaimed = record {
  exactly = λ frame p bytes. (made_of frame p bytes, reads_as frame p);
  no_other = λ frame frame' p bytes bytes' e e'. (made_of frame p bytes e).whole ∙ sym (made_of frame' p bytes' e').whole;
}
