-- A whole text sealed: the words after it, its ciphertext and its tag.
use Rattle.std.proofs.Common.{◌≡◌, ℕ, ◌+◌, ◌-◌, ◌*◌, ◌/◌, List, ◌++◌, length, take, drop, sym, ap, ◌∙◌, add-one, arith}
use borrow.Rule.Slice.PartMut.{put_mid}
use Rattle.std.proofs.lemmas.List.{length-drop, length-take}
use Rattle.std.proofs.Math.Seq.{take-append-add}
use Rattle.aead.specs.Bytes.{block}
use Rattle.aead.specs.Blocks.{absorbed, rate, after_blocks, sealed_blocks, after_text, ciphertext}
use Rattle.aead.specs.Cipher.{ready, ended, tag_at, tag_of}
use Rattle.aead.proofs.Blocks.{length_covered, rest_written}

-- the rest of a text absorbed
pub after_text_is : (ws text v b e : List ℕ) → v ≡ after_blocks (length text / 16) ws text → b ≡ block text (length text / 16) → e ≡ absorbed v b → e ≡ after_text ws text
unfolding after_text
after_text_is ws text v b e p q r = r ∙ rw (p, q)

-- as many bytes as the rest has, written over it, behind the whole blocks
pub ciphertext_is : (ws text out now new : List ℕ) → length out ≡ length text → length now ≡ length text
    → now ≡ sealed_blocks (length text / 16) ws text ++ drop (16 * (length text / 16)) out
    → new ≡ take (length (take (length now - 16 * (length now / 16)) (drop (16 * (length now / 16)) now))) (rate (absorbed (after_blocks (length text / 16) ws text) (block text (length text / 16))))
    → put_mid (16 * (length now / 16)) (length now - 16 * (length now / 16)) now new ≡ ciphertext ws text
unfolding ciphertext
ciphertext_is ws text out now new same size is fresh =
    let n = length text / 16 in
    let c = sealed_blocks n ws text in
    let last = rate (absorbed (after_blocks n ws text) (block text n)) in
    let long : length c ≡ 16 * n = length_covered n ws text in
    let few : length (take (length now - 16 * (length now / 16)) (drop (16 * (length now / 16)) now)) ≡ length text - 16 * n =
    simp (length-take, length-drop) (omega arith) in
    let e : length c + (length text - 16 * n) ≡ length text = omega arith in
    let full : c ++ last ≡ sealed_blocks (n + 1) ws text = rw add-one in
    rest_written c out now new (size ∙ sym same) (long ∙ ap (λ (k : ℕ). 16 * (k / 16)) (sym same))
    (is ∙ ap (λ (k : ℕ). c ++ drop (16 * (k / 16)) out) (sym same))
    ∙ ap (λ x. c ++ x) (fresh ∙ ap (λ j. take j last) few)
    ∙ sym (take-append-add c last (length text - 16 * n)) ∙ rw (e, full)

-- the tag of a text from the words after it
pub tag_is : (key nonce ad text v w : List ℕ) → v ≡ ready key nonce ad → w ≡ after_text v text → tag_at key (ended key w) ≡ tag_of key nonce ad text
unfolding tag_of
tag_is key nonce ad text v w p q = rw (q, p)
