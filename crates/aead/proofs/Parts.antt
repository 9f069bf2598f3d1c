-- The parts of a text, of a ciphertext and of an opened text, block by block.
use Rattle.std.proofs.Common.{◌≡◌, ℕ, zero, suc, ◌+◌, ◌-◌, ◌*◌, ◌/◌, ◌%◌, ◌<◌, ◌≤◌, List, [], ◌∷◌, ◌++◌, length, get_or, take, drop, replicate, sym, refl, ap, ◌∙◌, inl, inr, arith, take-add}
use Rattle.std.proofs.lemmas.List.{length-drop, take_at, drop_at, take-append-le, drop-append-le, take_all, drop-take, ext_get_or, get_or-take, get_or-drop}
use Rattle.std.proofs.lemmas.Bool.{cases_lt}
use Rattle.engine.proofs.WordCount.{length_mixed, length_permuted}
use Rattle.engine.specs.Meaning.{mixed}
use Rattle.aead.specs.Bytes.{word, block, part, padded}
use Rattle.aead.specs.Blocks.{absorbed, rate, after_blocks, sealed_blocks}
use Rattle.aead.proofs.Bytes.{length_block}
use Rattle.aead.proofs.Blocks.{length_rate, length_covered}

-- so many from the front, in either order
pub take_swap : (m n : ℕ) (xs : List ℕ) → take m (take n xs) ≡ take n (take m xs)
take_swap zero zero xs = refl
take_swap zero (suc n) [] = refl
take_swap zero (suc n) (x ∷ xs) = refl
take_swap (suc m) zero xs = refl
take_swap (suc m) (suc n) [] = refl
take_swap (suc m) (suc n) (x ∷ xs) = ap (λ ys. x ∷ ys) (take_swap m n xs)

pub drop_of_take : (m n : ℕ) (xs : List ℕ) → m ≤ n → drop m (take n xs) ≡ take (n - m) (drop m xs)
drop_of_take m n xs h = let e : n ≡ m + (n - m) = omega arith in ap (λ k. drop m (take k xs)) e ∙ drop-take m (n - m) xs

-- a part is what its block has of the text
pub part_of_block : (t : List ℕ) (i : ℕ) → 16 * i ≤ length t → take (length t - 16 * i) (block t i) ≡ part t i
unfolding block part padded
part_of_block t i h =
    take_swap (length t - 16 * i) 16 (drop (16 * i) (t ++ 1 ∷ replicate 15 0))
    ∙ ap (λ x. take 16 (take (length t - 16 * i) x)) (drop-append-le (16 * i) t (1 ∷ replicate 15 0) h)
    ∙ ap (take 16) (take_at (drop (16 * i) t) (1 ∷ replicate 15 0) (length t - 16 * i) (length-drop (16 * i) t))

-- a whole block is a part
pub whole_part : (t : List ℕ) (i : ℕ) → 16 * i + 16 ≤ length t → block t i ≡ part t i
whole_part t i h =
    let l : length (block t i) ≤ length t - 16 * i = simp (length_block t i (omega arith)) (omega arith) in
    sym (take_all (length t - 16 * i) (block t i) l) ∙ part_of_block t i (omega arith)

-- the parts joined are the text
pub opened_more : (t : List ℕ) (i : ℕ) → take (16 * i) t ++ part t i ≡ take (16 * suc i) t
unfolding part
opened_more t i = let e : 16 * suc i ≡ 16 * i + 16 = omega arith in sym (take-add (16 * i) 16 t) ∙ ap (λ n. take n t) (sym e)

-- lists with the same parts are the same
pub same_parts : (xs ys : List ℕ) → length xs ≡ length ys → ((i : ℕ) → 16 * i ≤ length xs → part xs i ≡ part ys i) → xs ≡ ys
unfolding part
same_parts xs ys l h =
    ext_get_or 0 xs ys l
    (λ k lt.
    let r : k % 16 < 16 = omega arith in
    let e : k ≡ 16 * (k / 16) + k % 16 = omega arith in
    let le : 16 * (k / 16) ≤ length xs = omega arith in
    let p : get_or (take 16 (drop (16 * (k / 16)) xs)) (k % 16) 0 ≡ get_or xs k 0 =
    get_or-take 16 (drop (16 * (k / 16)) xs) (k % 16) 0 r ∙ get_or-drop (16 * (k / 16)) xs (k % 16) 0 ∙ ap (λ j. get_or xs j 0) (sym e) in
    let q : get_or (take 16 (drop (16 * (k / 16)) ys)) (k % 16) 0 ≡ get_or ys k 0 =
    get_or-take 16 (drop (16 * (k / 16)) ys) (k % 16) 0 r ∙ get_or-drop (16 * (k / 16)) ys (k % 16) 0 ∙ ap (λ j. get_or ys j 0) (sym e) in
    sym p ∙ ap (λ zs. get_or zs (k % 16) 0) (h (k / 16) le) ∙ q)

-- the blocks that are sealed lie one behind the other
pub part_covered : (n : ℕ) (ws t : List ℕ) (i : ℕ) → i < n → take 16 (drop (16 * i) (sealed_blocks n ws t)) ≡ rate (absorbed (after_blocks i ws t) (block t i))
part_covered zero ws t i h = absurd (omega arith)
part_covered (suc n) ws t i h =
    let r = rate (absorbed (after_blocks n ws t) (block t n)) in
    let len : length (sealed_blocks n ws t) ≡ 16 * n = length_covered n ws t in
    elim (cases_lt i n) [
      | inl lt ↦
          let a : 16 * i ≤ length (sealed_blocks n ws t) = omega arith in
          let b : 16 ≤ length (drop (16 * i) (sealed_blocks n ws t)) = simp length-drop (omega arith) in
          ap (take 16) (drop-append-le (16 * i) (sealed_blocks n ws t) r a)
          ∙ take-append-le 16 (drop (16 * i) (sealed_blocks n ws t)) r b
          ∙ part_covered n ws t i lt
      | inr ge ↦
          let e : n ≡ i = omega arith in
          let len' : length (sealed_blocks n ws t) ≡ 16 * i = omega arith in
          let l : length r ≤ 16 = omega (arith, length_rate (absorbed (after_blocks n ws t) (block t n))) in
          ap (take 16) (drop_at (sealed_blocks n ws t) r (16 * i) len')
          ∙ take_all 16 r l
          ∙ ap (λ k. rate (absorbed (after_blocks k ws t) (block t k))) e
    ]

length_absorbed : (ws b : List ℕ) → length (absorbed ws b) ≡ length ws
unfolding absorbed
length_absorbed ws b = length_mixed 1 (word (drop 8 b)) (mixed 0 (word b) ws) ∙ length_mixed 0 (word b) ws

-- there are five words all along
pub length_after : (n : ℕ) (ws bs : List ℕ) → length ws ≡ 5 → length (after_blocks n ws bs) ≡ 5
length_after zero ws bs h = h
length_after (suc n) ws bs h =
    length_permuted 8 (absorbed (after_blocks n ws bs) (block bs n))
    (length_absorbed (after_blocks n ws bs) (block bs n) ∙ length_after n ws bs h)
