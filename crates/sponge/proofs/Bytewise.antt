-- Bytes that are no whole block, and bytes that are just one.
-- Assumes nothing.
use Rattle.std.proofs.Common.{◌≡◌, ℕ, ◌*◌, ◌/◌, ◌<◌, List, [], length, drop, ap, ◌∙◌, arith}
use Rattle.engine.specs.Meaning.{mixed, permuted}
use Rattle.std.proofs.lemmas.List.{drop_all, length_push, length-take}
use Rattle.std.proofs.lemmas.Bool.Decides.{nat_tests}
use Rattle.suite.specs.Words.{word}
use Rattle.sponge.specs.Sponge.{absorbed, after_blocks, rest_of, whole_blocks}

pub none_whole : (bs : List ℕ) → length bs < 8 → whole_blocks bs ≡ 0
unfolding whole_blocks
none_whole bs lt = omega arith

pub all_rest : (bs : List ℕ) → length bs < 8 → rest_of bs ≡ bs
unfolding rest_of
all_rest bs lt = ap (λ (n : ℕ). drop (8 * n) bs) (none_whole bs lt)

pub none_absorbed : (ws bs : List ℕ) → length bs < 8 → absorbed ws bs ≡ ws
unfolding absorbed
none_absorbed ws bs lt = ap (λ (n : ℕ). after_blocks n ws bs) (none_whole bs lt)

pub one_whole : (bs : List ℕ) → length bs ≡ 8 → whole_blocks bs ≡ 1
unfolding whole_blocks
one_whole bs is = omega arith

pub no_rest : (bs : List ℕ) → length bs ≡ 8 → rest_of bs ≡ []
unfolding rest_of
no_rest bs is = ap (λ (n : ℕ). drop (8 * n) bs) (one_whole bs is) ∙ drop_all 8 bs (omega arith)

pub one_absorbed : (ws bs : List ℕ) → length bs ≡ 8 → absorbed ws bs ≡ permuted 12 (mixed 0 (word bs) ws)
unfolding absorbed
one_absorbed ws bs is = ap (λ (n : ℕ). after_blocks n ws bs) (one_whole bs is)

-- a byte placed into a block
pub ruleset one_byte = (none_whole, all_rest, none_absorbed, one_whole, no_rest, one_absorbed, length_push, length-take, nat_tests)
