-- Words and bytes as the standard library states them.
use Rattle.std.proofs.Common.{◌≡◌, ℕ, zero, suc, ◌+◌, ◌-◌, ◌*◌, ◌<◌, ◌≤◌, List, [], ◌∷◌, ◌++◌, length, get_or, take, drop, replicate, refl, ap, ◌∙◌, append_assoc, add-zero, arith, rules}
use borrow.Rule.Slice.PartMut.{put_mid}
use Rattle.std.proofs.lemmas.List.{get_or-drop, get_or-take, length-take, length-drop, places, get_or_at, get_or-append_right, length-append, drop-append-le, take-append-le, append-nil}
pub use Rattle.suite.proofs.Words.{bytes_are, sum8, word_is}
use Rattle.suite.specs.Words.{bytes_of, word}
use Rattle.aead.specs.Bytes.{padded, block}

-- every byte of a row of zeros is zero, and so is what stands past it
zeros : (n k : ℕ) → ◌≡◌ {A = ℕ} (get_or (replicate n 0) k 0) 0
zeros zero k = refl
zeros (suc n) zero = refl
zeros (suc n) (suc k) = zeros n k

pub word_at : (xs : List ℕ) (at : ℕ) → word (drop at xs)
    ≡ get_or xs at 0 + get_or xs (at + 1) 0 * 256 + get_or xs (at + 2) 0 * 65536 + get_or xs (at + 3) 0 * 16777216 + get_or xs (at + 4) 0 * 4294967296
    + get_or xs (at + 5) 0 * 1099511627776 + get_or xs (at + 6) 0 * 281474976710656 + get_or xs (at + 7) 0 * 72057594037927936
word_at xs at = word_is (drop at xs) ∙ simp (get_or-drop, add-zero)

-- the bytes of the padding
pub padded_front : (xs ys : List ℕ) (at : ℕ) → at < length xs → get_or (padded (xs ++ ys)) at 0 ≡ get_or xs at 0
unfolding padded
padded_front xs ys at h = search (rules, places)

pub padded_back : (xs ys : List ℕ) (at : ℕ) → length xs ≤ at → at - length xs < length ys → get_or (padded (xs ++ ys)) at 0 ≡ get_or ys (at - length xs) 0
unfolding padded
padded_back xs ys at h k = search (rules, places)

pub padded_one : (xs ys : List ℕ) (at : ℕ) → length xs ≤ at → at - length xs ≡ length ys → get_or (padded (xs ++ ys)) at 0 ≡ 1
unfolding padded
padded_one xs ys at h k = get_or_at (xs ++ ys) 1 (replicate 15 0) 0 at (simp length-append (omega arith))

pub padded_past : (xs ys : List ℕ) (at : ℕ) → length xs + length ys < at → get_or (padded (xs ++ ys)) at 0 ≡ 0
unfolding padded
padded_past xs ys at h =
    let e : length (xs ++ ys) ≡ length xs + length ys = length-append xs ys in
    let k : suc (at - suc (length xs + length ys)) ≡ at - (length xs + length ys) = omega arith in
    get_or-append_right (xs ++ ys) (1 ∷ replicate 15 0) (length xs + length ys) at 0 e (omega arith) ∙ rw (← k) (zeros 15 (at - suc (length xs + length ys)))

-- a buffer whose two halves are written one after the other
pub halves : (low high : ℕ) (xs ys : List ℕ) → xs ≡ bytes_of low → ys ≡ bytes_of high → put_mid 8 8 (xs ++ replicate 8 0) ys ≡ bytes_of low ++ bytes_of high
unfolding bytes_of
halves low high xs ys p q = rw (p, q)

length_padded : (bs : List ℕ) → length (padded bs) ≡ length bs + 16
unfolding padded
length_padded bs = length-append bs (1 ∷ replicate 15 0)

pub length_block : (bs : List ℕ) (i : ℕ) → 16 * i ≤ length bs → length (block bs i) ≡ 16
unfolding block
length_block bs i h = simp (length-take, length-drop, length_padded) (omega arith)

pub get_or_block : (bs : List ℕ) (i k : ℕ) → k < 16 → get_or (block bs i) k 0 ≡ get_or (padded bs) (16 * i + k) 0
unfolding block
get_or_block bs i k h = rw (get_or-take, get_or-drop)

-- sixteen bytes that lie in the first part are a block
pub block_front : (xs ys : List ℕ) (i : ℕ) → 16 * i + 16 ≤ length xs → block (xs ++ ys) i ≡ take 16 (drop (16 * i) xs)
unfolding block padded
block_front xs ys i h =
    let pad = 1 ∷ replicate 15 0 in
    let b : 16 ≤ length (drop (16 * i) xs) = simp length-drop (omega arith) in
    ap (λ x. take 16 (drop (16 * i) x)) (append_assoc xs ys pad)
    ∙ ap (take 16) (drop-append-le (16 * i) xs (ys ++ pad) (omega arith))
    ∙ take-append-le 16 (drop (16 * i) xs) (ys ++ pad) b

-- a text alone is joined with nothing
pub alone : (text : List ℕ) (i : ℕ) → block (text ++ []) i ≡ block text i
alone text i = ap (λ x. block x i) (append-nil text)
