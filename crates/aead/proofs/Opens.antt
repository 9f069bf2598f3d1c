-- A whole text opened: its bytes, the words after it, and its tag.
use Rattle.std.proofs.Common.{◌≡◌, ℕ, ◌-◌, ◌*◌, ◌/◌, ◌≤◌, List, ◌++◌, length, take, drop, ap, ◌∙◌, sym, add-one, arith}
use borrow.Rule.Slice.PartMut.{put_mid}
use Rattle.std.proofs.lemmas.List.{take_all, drop_at, length-drop}
use Rattle.aead.specs.Bytes.{block, part, xored}
use Rattle.aead.specs.Blocks.{absorbed, rate, uncovered, after_opening, opened_blocks, after_text, plaintext}
use Rattle.aead.specs.Cipher.{ready, ended, tag_at, tag_of, unsealed}
use Rattle.aead.proofs.Blocks.{rest_written}
use Rattle.aead.proofs.Parts.{whole_part}
use Rattle.aead.proofs.Inverse.{length_opened_whole, length_plaintext, opened_after}

-- sixteen bytes are a block
pub whole_block : (b : List ℕ) → length b ≡ 16 → block b 0 ≡ b
unfolding part
whole_block b h = whole_part b 0 (omega arith) ∙ take_all 16 b (omega arith)

-- the rest of the text written over that of the ciphertext, behind the whole blocks
pub plaintext_is : (ws c now new : List ℕ) → length now ≡ length c → now ≡ opened_blocks (length c / 16) ws c ++ drop (16 * (length c / 16)) c
    → new ≡ xored (take (length now - 16 * (length now / 16)) (drop (16 * (length now / 16)) now)) (rate (after_opening (length c / 16) ws c))
    → put_mid (16 * (length now / 16)) (length now - 16 * (length now / 16)) now new ≡ plaintext ws c
unfolding plaintext uncovered part
plaintext_is ws c now new size is q =
    let n = length c / 16 in
    let o = opened_blocks n ws c in
    let rest = drop (16 * n) c in
    let long : length o ≡ 16 * n = length_opened_whole n ws c (omega arith) in
    let short : length rest ≤ length c - 16 * n = simp length-drop (omega arith) in
    let few : length rest ≤ 16 = simp length-drop (omega arith) in
    let e : new ≡ xored rest (rate (after_opening n ws c)) = q ∙ rw (size, is, drop_at o rest (16 * n) long, take_all (length c - 16 * n) rest short) in
    rest_written o c now new size long is
    ∙ ap (λ x. o ++ x) e
    ∙ rw (add-one, take_all 16 rest few)

-- the rest of the text absorbed
pub after_plaintext_is : (ws c p : List ℕ) → p ≡ plaintext ws c → absorbed (after_opening (length c / 16) ws c) (block p (length p / 16)) ≡ after_text ws (plaintext ws c)
unfolding after_text
after_plaintext_is ws c p is =
    rw (is, length_plaintext ws c)
    (ap (λ x. absorbed x (block (plaintext ws c) (length c / 16))) (sym (opened_after (length c / 16) ws c (omega arith))))

pub tag_of_is : (key nonce ad c v w : List ℕ) → v ≡ ready key nonce ad → w ≡ after_text v (plaintext v c) → tag_at key (ended key w) ≡ tag_of key nonce ad (unsealed key nonce ad c)
unfolding unsealed tag_of
tag_of_is key nonce ad c v w p q = ap (λ x. tag_at key (ended key x)) (q ∙ ap (λ x. after_text x (plaintext x c)) p)
