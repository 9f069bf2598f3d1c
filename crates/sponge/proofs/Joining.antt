-- Pieces join: the whole blocks and the rest of two joined pieces are those of the rest of the first joined to the second.
-- Assumes nothing.
use Rattle.std.proofs.Common.{add-zero, add-suc, ◌≡◌, ℕ, zero, suc, ◌+◌, ◌*◌, ◌/◌, ◌≤◌, List, ◌++◌, length, take, drop, sym, refl, ap, ◌∙◌, ap₂, arith}
use Rattle.std.specs.Simd.Lanes.{number_l}
use Rattle.engine.specs.Meaning.{mixed, permuted}
use Rattle.std.proofs.lemmas.List.{drop-append-le, drop-drop, length-append, length-drop, take-append-le}
use Rattle.suite.specs.Words.{word}
use Rattle.sponge.specs.Sponge.{absorbed, after_blocks, rest_of, whole_blocks}

pub length_rest : (xs : List ℕ) → length (rest_of xs) + 8 * whole_blocks xs ≡ length xs
unfolding rest_of whole_blocks
length_rest xs = grind (arith, length-drop)

-- what lies behind the whole blocks of the first piece
drop_joined : (xs ys : List ℕ) (k : ℕ) → drop (8 * (whole_blocks xs + k)) (xs ++ ys) ≡ drop (8 * k) (rest_of xs ++ ys)
unfolding rest_of whole_blocks
drop_joined xs ys k =
    let n = length xs / 8 in
    let e : 8 * (n + k) ≡ 8 * n + 8 * k = omega arith in
    ap (λ (j : ℕ). drop j (xs ++ ys)) e
    ∙ sym (drop-drop (8 * k) (8 * n) (xs ++ ys))
    ∙ ap (drop (8 * k)) (drop-append-le (8 * n) xs ys (omega arith))

-- whole blocks do not look further
blocks_front : (n : ℕ) (ws xs ys : List ℕ) → 8 * n ≤ length xs → after_blocks n ws (xs ++ ys) ≡ after_blocks n ws xs
unfolding word
blocks_front zero ws xs ys le = refl
blocks_front (suc n) ws xs ys le =
    let long : 8 ≤ length (drop (8 * n) xs) = simp length-drop (omega arith) in
    let e : take 8 (drop (8 * n) (xs ++ ys)) ≡ take 8 (drop (8 * n) xs) =
    ap (take 8) (drop-append-le (8 * n) xs ys (omega arith)) ∙ take-append-le 8 (drop (8 * n) xs) ys long
    in
    ap₂ (λ (v u : List ℕ). permuted 12 (mixed 0 (number_l 256 v) u)) e (blocks_front n ws xs ys (omega arith))

blocks_joined : (k : ℕ) (ws xs ys : List ℕ)
    → after_blocks (whole_blocks xs + k) ws (xs ++ ys) ≡ after_blocks k (absorbed ws xs) (rest_of xs ++ ys)
unfolding absorbed
blocks_joined zero ws xs ys =
    rw add-zero (blocks_front (whole_blocks xs) ws xs ys (omega (arith, length_rest xs)))
blocks_joined (suc k) ws xs ys =
    rw add-suc (ap₂ (λ (v u : List ℕ). permuted 12 (mixed 0 (word v) u)) (drop_joined xs ys k) (blocks_joined k ws xs ys))

module _ (xs ys : List ℕ) where
  pub whole_joined : whole_blocks (xs ++ ys) ≡ whole_blocks xs + whole_blocks (rest_of xs ++ ys)
  unfolding whole_blocks
  whole_joined = grind (arith, length_rest, length-append)

  pub rest_joined : rest_of (xs ++ ys) ≡ rest_of (rest_of xs ++ ys)
  unfolding rest_of
  rest_joined = ap (λ (n : ℕ). drop (8 * n) (xs ++ ys)) whole_joined ∙ drop_joined xs ys (whole_blocks (rest_of xs ++ ys))

  pub absorbed_joined : (ws : List ℕ) → absorbed ws (xs ++ ys) ≡ absorbed (absorbed ws xs) (rest_of xs ++ ys)
  unfolding absorbed
  absorbed_joined ws =
      ap (λ (n : ℕ). after_blocks n ws (xs ++ ys)) whole_joined ∙ blocks_joined (whole_blocks (rest_of xs ++ ys)) ws xs ys
