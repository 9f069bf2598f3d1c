-- Bytes of words, and bytes XORed: what is XORed twice is as before.
use Rattle.std.proofs.Common.{◌≡◌, ℕ, zero, suc, ◌+◌, ◌*◌, ◌/◌, ◌%◌, ◌<◌, ◌≤◌, List, [], ◌∷◌, ◌++◌, length, get_or, set, take, drop, sym, refl, ap, ◌∙◌, arith}
use Rattle.std.specs.Int.Bits.{bit_xor, xor_assoc, xor_self, xor_zero_r}
use Rattle.std.specs.Simd.Lanes.{number_l, digits_l, zip2}
use Rattle.std.proofs.lemmas.Nat.{xor_mod, xor_shr, xor_comm, xor_lt}
use Rattle.std.proofs.lemmas.List.{length-take, length-drop, take-append-drop, take_all}
use Rattle.std.proofs.ByRecursion.{All-append, All-take, All-drop}
use Rattle.suite.proofs.Words.{length_bytes_of}
use Rattle.suite.specs.Words.{bytes_of, word}
use Rattle.aead.specs.Bytes.{xored}
use Rattle.engine.specs.Meaning.{mixed}
use Rattle.aead.specs.Blocks.{absorbed, rate}
use Rattle.aead.specs.Laws.{Bytes}

digits_number : (xs : List ℕ) → Bytes xs → digits_l 256 (length xs) (number_l 256 xs) ≡ xs
digits_number [] h = refl
digits_number (x ∷ xs) h =
    let q : (x + 256 * number_l 256 xs) / 256 ≡ number_l 256 xs = omega (arith, h.0) in
    let r : (x + 256 * number_l 256 xs) % 256 ≡ x = omega (arith, h.0) in
    rw (q, r) (ap (λ ys. x ∷ ys) (digits_number xs h.1))

digits_xor : (n a b : ℕ) → digits_l 256 n (bit_xor a b) ≡ zip2 bit_xor (digits_l 256 n a) (digits_l 256 n b)
digits_xor zero a b = refl
digits_xor (suc n) a b = rw (xor_mod a b 8, xor_shr a b 8) (ap (λ ys. bit_xor (a % 256) (b % 256) ∷ ys) (digits_xor n (a / 256) (b / 256)))

digits_bytes : (n a : ℕ) → Bytes (digits_l 256 n a)
digits_bytes zero a = tt
digits_bytes (suc n) a = (omega arith, digits_bytes n (a / 256))

-- a word with eight bytes XORed in
mixed_bytes : (w : ℕ) (b : List ℕ) → length (take 8 b) ≡ 8 → Bytes (take 8 b) → bytes_of (bit_xor w (word b)) ≡ xored (take 8 b) (bytes_of w)
unfolding word bytes_of xored
mixed_bytes w b l h =
    let e : digits_l 256 8 (number_l 256 (take 8 b)) ≡ take 8 b = ap (λ n. digits_l 256 n (number_l 256 (take 8 b))) (sym l) ∙ digits_number (take 8 b) h in
    ap (digits_l 256 8) (xor_comm w (number_l 256 (take 8 b)))
    ∙ digits_xor 8 (number_l 256 (take 8 b)) w
    ∙ ap (λ x. zip2 bit_xor x (digits_l 256 8 w)) e

zip2_append : (xs us ys vs : List ℕ) → length xs ≡ length us → zip2 bit_xor xs us ++ zip2 bit_xor ys vs ≡ zip2 bit_xor (xs ++ ys) (us ++ vs)
zip2_append [] [] ys vs h = refl
zip2_append [] (u ∷ us) ys vs h = absurd (omega arith)
zip2_append (x ∷ xs) [] ys vs h = absurd (omega arith)
zip2_append (x ∷ xs) (u ∷ us) ys vs h = ap (λ zs. bit_xor x u ∷ zs) (zip2_append xs us ys vs (omega arith))

-- what absorbing a block puts out
pub rate_absorbed : (ws b : List ℕ) → 2 ≤ length ws → length b ≡ 16 → Bytes b → rate (absorbed ws b) ≡ xored b (rate ws)
unfolding absorbed mixed rate xored
rate_absorbed [] b h l k = absurd (omega arith)
rate_absorbed (x ∷ []) b h l k = absurd (omega arith)
rate_absorbed (x ∷ y ∷ zs) b h l k =
    let l0 : length (take 8 b) ≡ 8 = simp length-take (omega arith) in
    let l1 : length (take 8 (drop 8 b)) ≡ 8 = simp (length-take, length-drop) (omega arith) in
    let l2 : length (drop 8 b) ≤ 8 = simp length-drop (omega arith) in
    let p = mixed_bytes x b l0 (All-take _ 8 b k) in
    let q = mixed_bytes y (drop 8 b) l1 (All-take _ 8 (drop 8 b) (All-drop _ 8 b k)) in
    let m : length (take 8 b) ≡ length (bytes_of x) = l0 ∙ sym (length_bytes_of x) in
    ap (λ u. u ++ bytes_of (bit_xor y (word (drop 8 b)))) p
    ∙ ap (λ u. xored (take 8 b) (bytes_of x) ++ u) q
    ∙ zip2_append (take 8 b) (bytes_of x) (take 8 (drop 8 b)) (bytes_of y) m
    ∙ ap (λ u. zip2 bit_xor (take 8 b ++ u) (bytes_of x ++ bytes_of y)) (take_all 8 (drop 8 b) l2)
    ∙ ap (λ u. zip2 bit_xor u (bytes_of x ++ bytes_of y)) (take-append-drop 8 b)

pub bytes_rate : (ws : List ℕ) → Bytes (rate ws)
unfolding rate bytes_of
bytes_rate ws =
    All-append (λ b. b < 256) (digits_l 256 8 (get_or ws 0 0)) (digits_l 256 8 (get_or ws 1 0)) (digits_bytes 8 (get_or ws 0 0)) (digits_bytes 8 (get_or ws 1 0))

xor_twice : (x y : ℕ) → bit_xor (bit_xor x y) y ≡ x
xor_twice x y = xor_assoc x y y ∙ ap (bit_xor x) (xor_self y) ∙ xor_zero_r x

-- XORed twice is as before
pub xored_twice : (xs ys : List ℕ) → length xs ≤ length ys → xored (xored xs ys) ys ≡ xs
unfolding xored
xored_twice [] ys h = refl
xored_twice (x ∷ xs) [] h = absurd (omega arith)
xored_twice (x ∷ xs) (y ∷ ys) h = rw (xor_twice x y) (ap (λ zs. x ∷ zs) (xored_twice xs ys (omega arith)))

pub take_xored : (n : ℕ) (xs ys : List ℕ) → take n (xored xs ys) ≡ xored (take n xs) ys
unfolding xored
take_xored zero xs ys = refl
take_xored (suc n) [] ys = refl
take_xored (suc n) (x ∷ xs) [] = refl
take_xored (suc n) (x ∷ xs) (y ∷ ys) = ap (λ zs. bit_xor x y ∷ zs) (take_xored n xs ys)

pub length_xored : (xs ys : List ℕ) → length xs ≤ length ys → length (xored xs ys) ≡ length xs
unfolding xored
length_xored [] ys h = refl
length_xored (x ∷ xs) [] h = absurd (omega arith)
length_xored (x ∷ xs) (y ∷ ys) h = ap suc (length_xored xs ys (omega arith))

pub bytes_xored : (xs ys : List ℕ) → Bytes xs → Bytes ys → Bytes (xored xs ys)
unfolding xored
bytes_xored [] ys h k = tt
bytes_xored (x ∷ xs) [] h k = tt
bytes_xored (x ∷ xs) (y ∷ ys) h k = (xor_lt 8 x y h.0 k.0, bytes_xored xs ys h.1 k.1)

-- one more byte XORed where it stands
pub xored_more : (xs ys : List ℕ) (i : ℕ) → i < length xs → i < length ys
    → set (xored (take i xs) ys ++ drop i xs) i (bit_xor (get_or (xored (take i xs) ys ++ drop i xs) i 0) (get_or ys i 0))
    ≡ xored (take (suc i) xs) ys ++ drop (suc i) xs
unfolding xored
xored_more [] ys i h k = absurd (omega arith)
xored_more (x ∷ xs) [] i h k = absurd (omega arith)
xored_more (x ∷ xs) (y ∷ ys) zero h k = refl
xored_more (x ∷ xs) (y ∷ ys) (suc i) h k = ap (λ zs. bit_xor x y ∷ zs) (xored_more xs ys i (omega arith) (omega arith))
