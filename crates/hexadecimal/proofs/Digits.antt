-- Hexadecimal digits and their values.
-- Assumes nothing.
use Rattle.std.proofs.Common.{◌≡◌, ℕ, zero, suc, ◌+◌, ◌*◌, ◌/◌, ◌<◌, Bool, true, ◌&&◌, fold, List, [], ◌∷◌, length, get_or, take, drop, sym, refl, ap, ◌∙◌, arith}
use Rattle.std.proofs.Math.Bool.{and-true, and_assoc}
use Rattle.std.proofs.lemmas.Bool.{and_parts}
use Rattle.std.proofs.lemmas.Bool.Decides.{nat_tests}
use Rattle.std.proofs.lemmas.List.{drop-drop, get_or-take, get_or-drop}
use Rattle.std.proofs.lemmas.List.Sums.{AllPass-from_list_all}
use Rattle.std.specs.Char.{digit_char, digit_value, is_ascii_hexdigit}
use Rattle.std.specs.List.{list_all}
use Rattle.std.specs.Simd.{first_chunks}
use Rattle.hexadecimal.specs.Hexadecimal.{is_hex}

pub hexdigit_value : (c : ℕ) → is_ascii_hexdigit c ≡ true → digit_value c < 16
hexdigit_value c h = grind (arith, nat_tests)

pub hexdigit_of : (d : ℕ) → d < 16 → is_ascii_hexdigit (digit_char d) ≡ true
hexdigit_of d h = grind (arith, nat_tests)

pair_at : (n i : ℕ) (cs : List ℕ) → i < n → get_or (first_chunks 2 n cs) i [] ≡ take 2 (drop (i * 2) cs)
pair_at zero i cs h = absurd (omega arith)
pair_at (suc n) zero cs h = refl
pair_at (suc n) (suc i) cs h = pair_at n i (drop 2 cs) (omega arith) ∙ ap (take 2) (drop-drop (i * 2) 2 cs ∙ ap (λ (k : ℕ). drop k cs) (omega arith))

-- each digit of each pair of a text of digits is a digit
pub digit_of_pair : (cs : List ℕ) (i j : ℕ) → is_hex cs ≡ true → i < length cs / 2 → j < 2
    → is_ascii_hexdigit (get_or (get_or (first_chunks 2 (length cs / 2) cs) i []) j 0) ≡ true
digit_of_pair cs i j h in' low =
    let e : get_or (get_or (first_chunks 2 (length cs / 2) cs) i []) j 0 ≡ get_or cs (i * 2 + j) 0 =
    ap (λ (p : List ℕ). get_or p j 0) (pair_at (length cs / 2) i cs in') ∙ get_or-take 2 (drop (i * 2) cs) j 0 low ∙ get_or-drop (i * 2) cs j 0
    in
    ap is_ascii_hexdigit e ∙ AllPass-from_list_all is_ascii_hexdigit cs (and_parts _ _ h).1 (i * 2 + j) 0 (omega arith)

gathered : (cs : List ℕ) (b : Bool) → fold (λ ok c. ok && is_ascii_hexdigit c) b cs ≡ (b && list_all is_ascii_hexdigit cs)
gathered [] b = sym (and-true b)
gathered (c ∷ cs) b = gathered cs (b && is_ascii_hexdigit c) ∙ and_assoc b (is_ascii_hexdigit c) (list_all is_ascii_hexdigit cs)

-- gathered over the whole text, or asked to the first that is none
pub all_folded : (cs : List ℕ) → fold (λ ok c. ok && is_ascii_hexdigit c) true cs ≡ list_all is_ascii_hexdigit cs
all_folded cs = gathered cs true
