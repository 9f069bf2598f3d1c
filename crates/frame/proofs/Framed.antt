-- A frame that was made reads back.
-- Assumes nothing.
use Rattle.std.proofs.Common.{◌≡◌, ℕ, ◌+◌, ◌-◌, ◌^◌, ◌<◌, ◌≤◌, List, ◌++◌, length, take, drop, true, Ok, sym, refl, ap, ◌∙◌, append_assoc, arith}
use Rattle.std.proofs.lemmas.Bool.{le-leb, le-ltb, ne_eqb, eq-eqb, and_from}
use Rattle.std.proofs.lemmas.List.{length-append, length-drop, take_at, drop_at, take-append-drop, length-take-le}
use Rattle.suite.specs.Words.{bytes_of}
use Rattle.aead.specs.Cipher as aead
use Rattle.aead.specs.Cipher.{data_blocks, ready, sealed, tag_of}
use Rattle.aead.proofs.Inverse.{length_ciphertext}
use Rattle.frame.specs.Frame.{cost, fields_of, framed, nonce, sealed_body, trailer}
use Rattle.frame.specs.Laws.{FramedReadsBack, LengthAndCost, Named}
use Rattle.frame.specs.Reading.{fields_in, fitting, marked, parts_by, reading, trailer_in}
use Rattle.frame.specs.declared.trailer.Fields.{Fields}
use Rattle.frame.proofs.Numbers.{number_fits}

pub length_sealed : (key nonce ad text : List ℕ) → length (sealed key nonce ad text) ≡ length text + 16
unfolding sealed tag_of bytes_of
length_sealed key nonce ad text = length-append _ _ ∙ ap (λ (k : ℕ). k + 16) (length_ciphertext (ready key nonce ad) text)

-- fields that fit their bytes are read back
pub fields_back : (f : Fields) → f.number < 2 ^ 48 → f.station < 2 ^ 32 → f.header ≤ 256 → f.body ≤ 1200 → fields_in (trailer f) ≡ f
fields_back f n s h b =
    let en : (fields_in (trailer f)).number ≡ f.number = number_fits 6 f.number (omega arith) in
    let es : (fields_in (trailer f)).station ≡ f.station = number_fits 4 f.station (omega arith) in
    let eh : (fields_in (trailer f)).header ≡ f.header = number_fits 2 f.header (omega arith) in
    let eb : (fields_in (trailer f)).body ≡ f.body = number_fits 2 f.body (omega arith) in
    λ i. record { number = en i; station = es i; header = eh i; body = eb i }

-- the three questions answered yes
pub reads : (frame : List ℕ) (f : Fields) → 32 ≤ length frame → marked (trailer_in frame) ≡ true → fields_in (trailer_in frame) ≡ f
    → f.header ≤ 256 → f.body ≤ 1200 → f.header + f.body + 32 ≡ length frame → reading frame ≡ Ok (parts_by f frame)
reads frame f long mark is h b size =
    let fit : fitting (fields_in (trailer_in frame)) (length frame) ≡ true =
    ap (λ (x : Fields). fitting x (length frame)) is
    ∙ and_from _ _ (and_from _ _ (le-leb f.header 256 h) (le-leb f.body 1200 b)) (eq-eqb (f.header + f.body + 32) (length frame) size)
    in
    rw (le-ltb (length frame) 32 long, mark, fit) (ap (λ (x : Fields). Ok (parts_by x frame)) is)

-- parts of the right lengths, with the trailer that says so
module _ (header ciphertext tag : List ℕ) (f : Fields) (named : Named f.station f.number) (h : length header ≡ f.header) (b : length ciphertext ≡ f.body)
    (sixteen : length tag ≡ 16) (hw : f.header ≤ 256) (bw : f.body ≤ 1200) where
  abbrev frame : List ℕ
  frame = header ++ ciphertext ++ tag ++ trailer f

  size : length frame ≡ f.header + f.body + 32
  size = simp length-append (omega arith)

  last : trailer_in frame ≡ trailer f
  last = let l = size in drop_at (header ++ ciphertext ++ tag) (trailer f) (length frame - 16) (simp length-append (omega arith))

  behind_header : drop f.header frame ≡ ciphertext ++ tag ++ trailer f
  behind_header = simp append_assoc (drop_at header (ciphertext ++ (tag ++ trailer f)) f.header h)

  parts_are : parts_by f frame
      ≡ record { header = header; ciphertext = ciphertext; tag = tag; sealed = ciphertext ++ tag; trailer = trailer f; fields = f }
  parts_are =
      let l = size in
      let front : take f.header frame ≡ header = simp append_assoc (take_at header (ciphertext ++ (tag ++ trailer f)) f.header h) in
      let middle : take f.body (drop f.header frame) ≡ ciphertext =
      ap (take f.body) behind_header ∙ simp append_assoc (take_at ciphertext (tag ++ trailer f) f.body b)
      in
      let both : take (f.body + 16) (drop f.header frame) ≡ ciphertext ++ tag =
      ap (take (f.body + 16)) behind_header ∙ take_at (ciphertext ++ tag) (trailer f) (f.body + 16) (simp length-append (omega arith))
      in
      let behind : take 16 (drop (length frame - 32) frame) ≡ tag =
      ap (λ x. take 16 (drop (length frame - 32) x)) (append_assoc (header ++ ciphertext) tag (trailer f))
      ∙ ap (take 16) (drop_at (header ++ ciphertext) (tag ++ trailer f) (length frame - 32) (simp length-append (omega arith)))
      ∙ take_at tag (trailer f) 16 sixteen
      in
      λ i. record { header = front i; ciphertext = middle i; tag = behind i; sealed = both i; trailer = last i; fields = f }

  pub reads_back : reading frame
      ≡ Ok (record { header = header; ciphertext = ciphertext; tag = tag; sealed = ciphertext ++ tag; trailer = trailer f; fields = f })
  reads_back =
      let l = size in
      reads frame f (omega arith) (ap marked last) (ap fields_in last ∙ fields_back f named.1 named.0 hw bw) hw bw (sym l) ∙ ap Ok parts_are

module _ (key : List ℕ) (station number : ℕ) (header body : List ℕ) where
  abbrev text : List ℕ
  text = sealed_body key station number header body

  text_length : length text ≡ length body + 16
  text_length = length_sealed key (nonce station number) (header ++ trailer (fields_of station number header body)) body

  framed_length : length (framed key station number header body) ≡ length header + length body + 32
  framed_length = let s = text_length in simp length-append (omega arith)

  -- ciphertext and tag apart
  parted : framed key station number header body
      ≡ header ++ take (length body) text ++ drop (length body) text ++ trailer (fields_of station number header body)
  parted =
      ap (λ x. header ++ x ++ trailer (fields_of station number header body)) (sym (take-append-drop (length body) text))
      ∙ ap (λ x. x ++ trailer (fields_of station number header body)) (sym (append_assoc header (take (length body) text) (drop (length body) text)))

pub framed_reads_back : FramedReadsBack
framed_reads_back key header body station number named within =
    let t = sealed_body key station number header body in
    let f = fields_of station number header body in
    let l = text_length key station number header body in
    ap reading (parted key station number header body)
    ∙ reads_back header (take (length body) t) (drop (length body) t) f named refl (length-take-le (length body) t (omega arith))
    (simp length-drop (omega arith)) within.0 within.1
    ∙ ap (λ (x : List ℕ). Ok (record { header = header; ciphertext = take (length body) t; tag = drop (length body) t; sealed = x; trailer = trailer f; fields = f }))
    (take-append-drop (length body) t)

cost_of : (h b : ℕ) → aead.cost (h + 16) b ≡ cost h b
unfolding data_blocks aead.cost
cost_of h b = rw (ne_eqb (h + 16) 0 (λ e. omega arith)) (omega arith)

pub length_and_cost : LengthAndCost
length_and_cost = record {
  length_is = λ key header body station number. framed_length key station number header body;
  cost_is = λ header body station number.
      ap (λ (n : ℕ). aead.cost n (length body)) (length-append header (trailer (fields_of station number header body))) ∙ cost_of (length header) (length body);
}
