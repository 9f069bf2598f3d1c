-- Sealing and opening undo one another, block by block and then as a whole.
use Rattle.std.proofs.Common.{◌≡◌, ℕ, zero, suc, ◌+◌, ◌-◌, ◌*◌, ◌/◌, ◌<◌, ◌≤◌, List, [], ◌∷◌, ◌++◌, length, take, drop, replicate, sym, refl, ap, ◌∙◌, inl, inr, arith}
use Rattle.std.proofs.lemmas.Bool.{cases_lt}
use Rattle.std.proofs.lemmas.List.{take-append-le, drop-append-le, length-append, length-take, length-drop, take_all, take_at, drop_at, length-take-le}
use Rattle.std.proofs.ByRecursion.{All-append, All-take, All-drop}
use Rattle.engine.specs.Meaning.{mixed, permuted}
use Rattle.engine.proofs.WordCount.{length_mixed, length_permuted}
use Rattle.aead.specs.Bytes.{word, block, part, padded, xored}
use Rattle.aead.specs.Blocks.{absorbed, rate, after_blocks, sealed_blocks, uncovered, after_opening, opened_blocks, ciphertext, plaintext}
use Rattle.aead.specs.Cipher.{started, ready, data_blocks, sealed, unsealed, tag_of}
use Rattle.aead.specs.Laws.{Bytes, OpenedSeals, SealedOpens}
use Rattle.aead.proofs.Bytes.{length_block}
use Rattle.aead.proofs.Blocks.{length_rate, length_covered}
use Rattle.aead.proofs.Xor.{rate_absorbed, bytes_rate, xored_twice, take_xored, length_xored, bytes_xored}
use Rattle.aead.proofs.Parts.{drop_of_take, take_swap, part_of_block, whole_part, opened_more, same_parts, part_covered, length_after}

bytes_block : (t : List ℕ) (i : ℕ) → Bytes t → Bytes (block t i)
unfolding block padded
bytes_block t i h =
    let pad : Bytes (1 ∷ replicate 15 0) = search arith in
    All-take (λ b. b < 256) 16 (drop (16 * i) (t ++ 1 ∷ replicate 15 0))
    (All-drop (λ b. b < 256) (16 * i) (t ++ 1 ∷ replicate 15 0) (All-append (λ b. b < 256) t (1 ∷ replicate 15 0) h pad))

length_part : (t : List ℕ) (i : ℕ) → length (part t i) ≤ 16
unfolding part
length_part t i = simp length-take (omega arith)

pub length_ciphertext : (ws t : List ℕ) → length (ciphertext ws t) ≡ length t
unfolding ciphertext
length_ciphertext ws t =
    length-take-le (length t) (sealed_blocks (length t / 16 + 1) ws t) (omega (arith, length_covered (length t / 16 + 1) ws t))

-- a part of the ciphertext is a part of the text XORed with the words before it
part_ciphertext : (ws t : List ℕ) (i : ℕ) → length ws ≡ 5 → Bytes t → 16 * i ≤ length t
    → part (ciphertext ws t) i ≡ xored (part t i) (rate (after_blocks i ws t))
unfolding ciphertext part
part_ciphertext ws t i five h le =
    let n = length t / 16 + 1 in
    let w = after_blocks i ws t in
    let lt : i < n = omega arith in
    let long : 2 ≤ length w = omega (arith, length_after i ws t five) in
    ap (take 16) (drop_of_take (16 * i) (length t) (sealed_blocks n ws t) le)
    ∙ take_swap 16 (length t - 16 * i) (drop (16 * i) (sealed_blocks n ws t))
    ∙ ap (take (length t - 16 * i)) (part_covered n ws t i lt)
    ∙ ap (take (length t - 16 * i)) (rate_absorbed w (block t i) long (length_block t i le) (bytes_block t i h))
    ∙ take_xored (length t - 16 * i) (block t i) (rate w)
    ∙ ap (λ x. xored x (rate w)) (part_of_block t i le)

-- a sealed block opens to its text
part_opens : (ws t : List ℕ) (i : ℕ) → length ws ≡ 5 → Bytes t → 16 * i ≤ length t
    → uncovered (after_blocks i ws t) (part (ciphertext ws t) i) ≡ part t i
unfolding uncovered
part_opens ws t i five h le =
    let fits : length (part t i) ≤ length (rate (after_blocks i ws t)) = omega (arith, length_part t i, length_rate (after_blocks i ws t)) in
    ap (λ x. xored x (rate (after_blocks i ws t))) (part_ciphertext ws t i five h le)
    ∙ xored_twice (part t i) (rate (after_blocks i ws t)) fits

-- opening a ciphertext goes through the words that sealing went through
after_opened : (i : ℕ) (ws t : List ℕ) → length ws ≡ 5 → Bytes t → 16 * i ≤ length t → after_opening i ws (ciphertext ws t) ≡ after_blocks i ws t
after_opened zero ws t five h le = refl
after_opened (suc i) ws t five h le =
    let c = ciphertext ws t in
    let ih : after_opening i ws c ≡ after_blocks i ws t = after_opened i ws t five h (omega arith) in
    ap (λ v. permuted 8 (absorbed v (uncovered v (part c i)))) ih
    ∙ ap (λ b. permuted 8 (absorbed (after_blocks i ws t) b)) (part_opens ws t i five h (omega arith) ∙ sym (whole_part t i (omega arith)))

opened_part : (ws t : List ℕ) (i : ℕ) → length ws ≡ 5 → Bytes t → 16 * i ≤ length t
    → uncovered (after_opening i ws (ciphertext ws t)) (part (ciphertext ws t) i) ≡ part t i
opened_part ws t i five h le =
    ap (λ v. uncovered v (part (ciphertext ws t) i)) (after_opened i ws t five h le) ∙ part_opens ws t i five h le

opened_is : (i : ℕ) (ws t : List ℕ) → length ws ≡ 5 → Bytes t → 16 * i ≤ length t + 16 → opened_blocks i ws (ciphertext ws t) ≡ take (16 * i) t
opened_is zero ws t five h le = refl
opened_is (suc i) ws t five h le =
    ap (λ x. x ++ uncovered (after_opening i ws (ciphertext ws t)) (part (ciphertext ws t) i)) (opened_is i ws t five h (omega arith))
    ∙ ap (λ x. take (16 * i) t ++ x) (opened_part ws t i five h (omega arith))
    ∙ opened_more t i

plaintext_ciphertext : (ws t : List ℕ) → length ws ≡ 5 → Bytes t → plaintext ws (ciphertext ws t) ≡ t
unfolding plaintext
plaintext_ciphertext ws t five h =
    ap (λ n. opened_blocks (n / 16 + 1) ws (ciphertext ws t)) (length_ciphertext ws t)
    ∙ opened_is (length t / 16 + 1) ws t five h (omega arith)
    ∙ take_all (16 * (length t / 16 + 1)) t (omega arith)

-- the other way: an opened text seals to its ciphertext
length_uncovered : (ws c : List ℕ) (i : ℕ) → length (uncovered ws (part c i)) ≡ length (part c i)
unfolding uncovered
length_uncovered ws c i = length_xored (part c i) (rate ws) (omega (arith, length_part c i, length_rate ws))

length_opened : (n : ℕ) (ws c : List ℕ) → length (opened_blocks n ws c) ≡ length (take (16 * n) c)
length_opened zero ws c = refl
length_opened (suc n) ws c =
    let u = uncovered (after_opening n ws c) (part c n) in
    length-append (opened_blocks n ws c) u
    ∙ ap (λ k. k + length u) (length_opened n ws c)
    ∙ ap (λ k. length (take (16 * n) c) + k) (length_uncovered (after_opening n ws c) c n)
    ∙ sym (length-append (take (16 * n) c) (part c n))
    ∙ ap length (opened_more c n)

pub length_plaintext : (ws c : List ℕ) → length (plaintext ws c) ≡ length c
unfolding plaintext
length_plaintext ws c =
    length_opened (length c / 16 + 1) ws c ∙ ap length (take_all (16 * (length c / 16 + 1)) c (omega arith))

pub length_opened_whole : (n : ℕ) (ws c : List ℕ) → 16 * n ≤ length c → length (opened_blocks n ws c) ≡ 16 * n
length_opened_whole n ws c h = length_opened n ws c ∙ length-take-le (16 * n) c h

-- the blocks that are opened lie one behind the other
part_opened : (n : ℕ) (ws c : List ℕ) (i : ℕ) → 16 * n ≤ length c + 16 → i < n → take 16 (drop (16 * i) (opened_blocks n ws c)) ≡ uncovered (after_opening i ws c) (part c i)
part_opened zero ws c i le h = absurd (omega arith)
part_opened (suc n) ws c i le h =
    let u = uncovered (after_opening n ws c) (part c n) in
    let len : length (opened_blocks n ws c) ≡ 16 * n = length_opened_whole n ws c (omega arith) in
    elim (cases_lt i n) [
      | inl lt ↦
          let a : 16 * i ≤ length (opened_blocks n ws c) = omega arith in
          let b : 16 ≤ length (drop (16 * i) (opened_blocks n ws c)) = simp length-drop (omega arith) in
          ap (take 16) (drop-append-le (16 * i) (opened_blocks n ws c) u a)
          ∙ take-append-le 16 (drop (16 * i) (opened_blocks n ws c)) u b
          ∙ part_opened n ws c i (omega arith) lt
      | inr ge ↦
          let e : n ≡ i = omega arith in
          let len' : length (opened_blocks n ws c) ≡ 16 * i = omega arith in
          let l : length u ≤ 16 = omega (arith, length_uncovered (after_opening n ws c) c n, length_part c n) in
          ap (take 16) (drop_at (opened_blocks n ws c) u (16 * i) len')
          ∙ take_all 16 u l
          ∙ ap (λ k. uncovered (after_opening k ws c) (part c k)) e
    ]

part_plaintext : (ws c : List ℕ) (i : ℕ) → 16 * i ≤ length c → part (plaintext ws c) i ≡ uncovered (after_opening i ws c) (part c i)
unfolding plaintext part
part_plaintext ws c i h = part_opened (length c / 16 + 1) ws c i (omega arith) (omega arith)

-- sealing an opened text goes through the words that opening went through
pub opened_after : (i : ℕ) (ws c : List ℕ) → 16 * i ≤ length c → after_blocks i ws (plaintext ws c) ≡ after_opening i ws c
opened_after zero ws c h = refl
opened_after (suc i) ws c h =
    let p = plaintext ws c in
    let whole : 16 * i + 16 ≤ length p = omega (arith, length_plaintext ws c) in
    ap (λ v. permuted 8 (absorbed v (block p i))) (opened_after i ws c (omega arith))
    ∙ ap (λ b. permuted 8 (absorbed (after_opening i ws c) b)) (whole_part p i whole ∙ part_plaintext ws c i (omega arith))

bytes_opened : (n : ℕ) (ws c : List ℕ) → Bytes c → Bytes (opened_blocks n ws c)
unfolding uncovered part
bytes_opened zero ws c h = tt
bytes_opened (suc n) ws c h =
    All-append (λ b. b < 256) (opened_blocks n ws c) (uncovered (after_opening n ws c) (part c n)) (bytes_opened n ws c h)
    (bytes_xored (part c n) (rate (after_opening n ws c)) (All-take (λ b. b < 256) 16 (drop (16 * n) c) (All-drop (λ b. b < 256) (16 * n) c h)) (bytes_rate (after_opening n ws c)))

pub bytes_plaintext : (ws c : List ℕ) → Bytes c → Bytes (plaintext ws c)
unfolding plaintext
bytes_plaintext ws c h = bytes_opened (length c / 16 + 1) ws c h

ciphertext_plaintext : (ws c : List ℕ) → length ws ≡ 5 → Bytes c → ciphertext ws (plaintext ws c) ≡ c
unfolding plaintext uncovered
ciphertext_plaintext ws c five h =
    let p = plaintext ws c in
    let long : length (ciphertext ws p) ≡ length c = length_ciphertext ws p ∙ length_plaintext ws c in
    let bytes : Bytes p = bytes_opened (length c / 16 + 1) ws c h in
    same_parts (ciphertext ws p) c long
    (λ i le.
    let le' : 16 * i ≤ length c = omega arith in
    let fits : length (part c i) ≤ length (rate (after_opening i ws c)) = omega (arith, length_part c i, length_rate (after_opening i ws c)) in
    part_ciphertext ws p i five bytes (omega (arith, length_plaintext ws c))
    ∙ ap (λ v. xored (part p i) (rate v)) (opened_after i ws c le')
    ∙ ap (λ x. xored x (rate (after_opening i ws c))) (part_plaintext ws c i le')
    ∙ xored_twice (part c i) (rate (after_opening i ws c)) fits)

length_started : (key nonce : List ℕ) → length (started key nonce) ≡ 5
length_started key nonce =
    let start = 0x00001000808c0001 ∷ word key ∷ word (drop 8 key) ∷ word nonce ∷ word (drop 8 nonce) ∷ [] in
    length_mixed 4 (word (drop 8 key)) (mixed 3 (word key) (permuted 12 start))
    ∙ length_mixed 3 (word key) (permuted 12 start)
    ∙ length_permuted 12 start refl

length_ready : (key nonce ad : List ℕ) → length (ready key nonce ad) ≡ 5
unfolding ready
length_ready key nonce ad =
    length_mixed 4 0x8000000000000000 (after_blocks (data_blocks (length ad)) (started key nonce) ad)
    ∙ length_after (data_blocks (length ad)) (started key nonce) ad (length_started key nonce)

pub sealed_opens : SealedOpens
unfolding sealed unsealed
sealed_opens key nonce ad text h =
    let ws = ready key nonce ad in
    let five : length ws ≡ 5 = length_ready key nonce ad in
    let long = length_ciphertext ws text in (
      ap (plaintext ws) (take_at (ciphertext ws text) (tag_of key nonce ad text) (length text) long) ∙ plaintext_ciphertext ws text five h,
      sym (drop_at (ciphertext ws text) (tag_of key nonce ad text) (length text) long),
    )

pub opened_seals : OpenedSeals
unfolding sealed unsealed
opened_seals key nonce ad c tag h e =
    let ws = ready key nonce ad in
    let five : length ws ≡ 5 = length_ready key nonce ad in
    ap (λ x. x ++ tag_of key nonce ad (unsealed key nonce ad c)) (ciphertext_plaintext ws c five h) ∙ ap (λ x. c ++ x) e
