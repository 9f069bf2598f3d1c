-- An engine and a block after some bytes, and after more of them.
-- Assumes nothing.
use Rattle.std.proofs.Common.{◌≡◌, ℕ, ◌+◌, ◌<◌, ◌≤◌, true, List, [], ◌∷◌, ◌++◌, length, get_or, take, drop, sym, ap, ◌∙◌, subst, arith}
use Rattle.engine.specs.Meaning.{Meaning}
use Rattle.engine.specs.Runs.{after, has}
use Rattle.std.proofs.lemmas.List.{append_assoc, append-nil, length-take, take-append-drop, take_all, take_more}
use Rattle.sponge.specs.Sponge.{absorbed, rest_of, whole_blocks}
use Rattle.sponge.proofs.Bytewise.{all_rest, none_absorbed, none_whole}
pub use Rattle.sponge.proofs.Joining.{absorbed_joined, rest_joined, whole_joined}

-- An engine that meant m has absorbed the bytes xs; it means y now, and the rest waits in a block.
pub record Taken (m : Meaning) (xs : List ℕ) (y : Meaning) (rest : List ℕ) : Type 0 where
  pub engine_is : y ≡ after (whole_blocks xs) (absorbed m.words xs) m
  pub runs_had : has (whole_blocks xs) m ≡ true
  pub rest_is : rest ≡ rest_of xs

-- the bytes of a piece one by one
pub one_more : (part piece : List ℕ) (i : ℕ) → i < length piece
    → part ++ take (i + 1) piece ≡ (part ++ take i piece) ++ get_or piece i 0 ∷ []
one_more part piece i lt =
    ap (λ (x : List ℕ). part ++ x) (take_more piece i 0 lt) ∙ sym (append_assoc part (take i piece) (get_or piece i 0 ∷ []))

-- the whole piece has at least the whole blocks of its front and one byte more
pub front_blocks : (part piece : List ℕ) (i : ℕ) → i < length piece
    → whole_blocks (part ++ take i piece) + whole_blocks (rest_of (part ++ take i piece) ++ get_or piece i 0 ∷ []) ≤ whole_blocks (part ++ piece)
front_blocks part piece i lt =
    let e : (part ++ take (i + 1) piece) ++ drop (i + 1) piece ≡ part ++ piece =
    append_assoc part (take (i + 1) piece) (drop (i + 1) piece) ∙ ap (λ (x : List ℕ). part ++ x) (take-append-drop (i + 1) piece)
    in
    let j = whole_joined (part ++ take i piece) (get_or piece i 0 ∷ []) in
    let k = whole_joined (part ++ take (i + 1) piece) (drop (i + 1) piece) in
    let l = ap whole_blocks (one_more part piece i lt) in
    let n = ap whole_blocks e in
    omega arith

-- a block that is not yet whole, with no byte of the piece
pub ruleset none_taken = (none_whole, all_rest, none_absorbed, append-nil, length-take)

-- one more byte of the piece
pub ruleset more_taken = (one_more, front_blocks, whole_joined, rest_joined, absorbed_joined)
