-- A byte placed into a block, inside it and at its end, and a block padded.
-- Assumes nothing.
use Rattle.std.proofs.Common.{◌≡◌, ℕ, suc, ◌+◌, ◌-◌, ◌<◌, ◌≤◌, true, eqb, List, [], ◌∷◌, ◌++◌, length, get_or, take, drop, set, replicate, Some, sym, ap, ◌∙◌, arith}
use borrow.Rule.Slice.PartMut.{put_mid}
use Rattle.std.specs.Simd.Lanes.{number_l}
use Rattle.std.proofs.Math.Seq.{take-append-add}
use Rattle.std.proofs.lemmas.List.{append_assoc, append-nil, drop_all, length-drop, length-set, length-take-le, places, take_all, take_more_set, take-replicate}
use Rattle.std.proofs.lemmas.Bool.{eq-eqb}
use Rattle.suite.specs.Words.{word}
use Rattle.suite.proofs.Words.{sum8, word_is}
use Rattle.sponge.specs.Steps.{placing}
use Rattle.sponge.specs.Sponge.{padded}

module _ (blk : List ℕ) (n b : ℕ) (len : length blk ≡ 8) where
  pub place_whole : (v : ℕ) → n < 8 → 7 ≤ n → v ≡ sum8 (λ k. get_or (set blk n b) k 0) → (Some v, []) ≡ placing b (take n blk)
  place_whole v lt ge is =
      let long : length (take n blk) ≡ n = length-take-le n blk (omega arith) in
      let f : eqb (length (take n blk)) 7 ≡ true = rw long (eq-eqb n 7 (omega arith)) in
      let w : set blk n b ≡ take n blk ++ b ∷ [] =
      sym (take_all (n + 1) (set blk n b) (simp length-set (omega arith))) ∙ take_more_set blk n b (omega arith)
      in
      let e : v ≡ word (take n blk ++ b ∷ []) = is ∙ sym (word_is (set blk n b)) ∙ ap word w in
      simp (f, e)

-- a block whose bytes from a place on are 0x01 and zeros
word_zeroed : (blk : List ℕ) (n : ℕ) (zeros : List ℕ) → length blk ≡ 8 → n < 8
    → zeros ≡ replicate (length (take (8 - (n + 1)) (drop (n + 1) (set blk n 1)))) 0
    → word (put_mid (n + 1) (8 - (n + 1)) (set blk n 1) zeros) ≡ word (padded (take n blk))
unfolding word padded
word_zeroed blk n zeros len lt same =
    let many : length (take (8 - (n + 1)) (drop (n + 1) (set blk n 1))) ≡ 8 - (n + 1) =
    length-take-le (8 - (n + 1)) (drop (n + 1) (set blk n 1)) (simp (length-drop, length-set) (omega arith))
    in
    let is : zeros ≡ replicate (8 - (n + 1)) 0 = same ∙ ap (λ (k : ℕ). replicate k 0) many in
    let long : length (take n blk) ≡ n = length-take-le n blk (omega arith) in
    let all : 8 ≡ length (take n blk) + suc (8 - (n + 1)) = omega arith in
    let e : take n blk ++ 1 ∷ replicate (8 - (n + 1)) 0 ≡ take 8 (take n blk ++ 1 ∷ replicate 7 0) =
    sym
    (ap (λ (k : ℕ). take k (take n blk ++ 1 ∷ replicate 7 0)) all
    ∙ take-append-add (take n blk) (1 ∷ replicate 7 0) (suc (8 - (n + 1)))
    ∙ ap (λ (x : List ℕ). take n blk ++ 1 ∷ x) (take-replicate (8 - (n + 1)) 7 0 (omega arith)))
    in
    let past : drop (8 - (n + 1)) (drop (n + 1) (set blk n 1)) ≡ [] =
    drop_all (8 - (n + 1)) (drop (n + 1) (set blk n 1)) (simp (length-drop, length-set) (omega arith))
    in
    let front : take (n + 1) (set blk n 1) ≡ take n blk ++ 1 ∷ [] = take_more_set blk n 1 (omega arith) in
    let f : put_mid (n + 1) (8 - (n + 1)) (set blk n 1) zeros ≡ take n blk ++ 1 ∷ replicate (8 - (n + 1)) 0 =
    rw (past, front, is) (ap (λ (x : List ℕ). (take n blk ++ 1 ∷ []) ++ x) (append-nil _) ∙ append_assoc (take n blk) (1 ∷ []) _)
    in
    let g : length (take n blk ++ 1 ∷ replicate (8 - (n + 1)) 0) ≤ 8 = grind (arith, places) in
    ap (λ (x : List ℕ). number_l 256 (take 8 x)) f ∙ ap (number_l 256) (take_all 8 _ g ∙ e)

pub word_padded : (blk : List ℕ) (n v : ℕ) (marked zeros : List ℕ) → length blk ≡ 8 → n < 8 → marked ≡ set blk n 1
    → zeros ≡ replicate (length (take (8 - (n + 1)) (drop (n + 1) marked))) 0
    → v ≡ sum8 (λ k. get_or (put_mid (n + 1) (8 - (n + 1)) marked zeros) k 0) → v ≡ word (padded (take n blk))
word_padded blk n v marked zeros len lt mark is sum =
    sum ∙ sym (word_is _) ∙ ap (λ (x : List ℕ). word (put_mid (n + 1) (8 - (n + 1)) x zeros)) mark
    ∙ word_zeroed blk n zeros len lt (is ∙ ap (λ (x : List ℕ). replicate (length (take (8 - (n + 1)) (drop (n + 1) x))) 0) mark)
