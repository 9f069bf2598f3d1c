-- Numbers as bytes and back.
-- Assumes nothing.
use Rattle.std.proofs.Common.{◌≡◌, ℕ, zero, suc, ◌+◌, ◌*◌, ◌/◌, ◌%◌, ◌^◌, ◌<◌, List, [], ◌∷◌, length, take, drop, sym, refl, ap, ◌∙◌, ap₂, arith}
use Rattle.std.proofs.Math.Arith.{mod-mul, digits_div, digits_mod}
use Rattle.std.proofs.Math.Nat.{pow-suc, zero-add, add-mul, mul_assoc, mul_comm, mod-eq_of_lt}
use Rattle.std.proofs.lemmas.Int.Digits.{number_lt}
use Rattle.std.proofs.lemmas.List.Elements.{All-drop, All-from_recursion, All-take, recursion_from_All}
use Rattle.std.specs.Int.{byte_at}
use Rattle.std.specs.Int.Digits.{number_from_digits_after}
use Rattle.aead.specs.Laws.{Bytes}
use Rattle.frame.specs.Bytes.{bytes_high_first, number_of}

pub bytes_take : (n : ℕ) (xs : List ℕ) → Bytes xs → Bytes (take n xs)
bytes_take n xs h = recursion_from_All (λ b. b < 256) (take n xs) (All-take (λ b. b < 256) n xs (All-from_recursion (λ b. b < 256) xs h))

pub bytes_drop : (n : ℕ) (xs : List ℕ) → Bytes xs → Bytes (drop n xs)
bytes_drop n xs h = recursion_from_All (λ b. b < 256) (drop n xs) (All-drop (λ b. b < 256) n xs (All-from_recursion (λ b. b < 256) xs h))

byte_is : (k n : ℕ) → byte_at k n ≡ n / 256 ^ k % 256
byte_is zero n = omega arith
byte_is (suc k) n = refl

pub length_bytes : (k n : ℕ) → length (bytes_high_first k n) ≡ k
length_bytes zero n = refl
length_bytes (suc k) n = ap suc (length_bytes k n)

pow_pos : (k : ℕ) → 0 < 256 ^ k
pow_pos zero = omega arith
pow_pos (suc k) = omega (arith, pow-suc 256 k, pow_pos k)

carried : (a d p n : ℕ) → (a * 256 + d) * p + n ≡ a * (p * 256) + ((0 * 256 + d) * p + n)
carried a d p n = omega (arith, add-mul (a * 256) d p, mul_assoc a 256 p, mul_comm 256 p)

-- what stands before a number's bytes counts as many times as they can tell apart
after_split : (a : ℕ) (ds : List ℕ) → number_from_digits_after 256 a ds ≡ a * 256 ^ length ds + number_of ds
after_split a [] = omega arith
after_split a (d ∷ ds) =
    after_split (a * 256 + d) ds
    ∙ carried a d (256 ^ length ds) (number_of ds)
    ∙ ap₂ (λ x y. a * x + y) (sym (pow-suc 256 (length ds))) (sym (after_split (0 * 256 + d) ds))

-- a number's lowest bytes, read
number_bytes : (k n : ℕ) → number_of (bytes_high_first k n) ≡ n % 256 ^ k
number_bytes zero n = omega arith
number_bytes (suc k) n =
    let q = n / 256 ^ k % 256 in
    ap (λ x. number_from_digits_after 256 (0 + x) (bytes_high_first k n)) (byte_is k n)
    ∙ after_split (0 + q) (bytes_high_first k n)
    ∙ ap₂ (λ l m. (0 + q) * 256 ^ l + m) (length_bytes k n) (number_bytes k n)
    ∙ ap (λ x. x * 256 ^ k + n % 256 ^ k) (zero-add q)
    ∙ sym (mod-mul n (omega arith) (pow_pos k))
    ∙ ap (λ x. n % x) (mul_comm 256 (256 ^ k) ∙ sym (pow-suc 256 k))

-- bytes, read and written, whatever stood before them
bytes_after : (a : ℕ) (ds : List ℕ) → Bytes ds → bytes_high_first (length ds) (number_from_digits_after 256 a ds) ≡ ds
bytes_after a [] h = refl
bytes_after a (d ∷ ds) h =
    let lt : number_of ds < 256 ^ length ds = number_lt 256 ds h.1 in
    ap₂ {C = List ℕ} (λ x xs. x ∷ xs)
    (byte_is (length ds) (number_from_digits_after 256 (a * 256 + d) ds)
    ∙ ap (λ x. x / 256 ^ length ds % 256) (after_split (a * 256 + d) ds)
    ∙ ap (λ x. x % 256) (digits_div (a * 256 + d) lt)
    ∙ digits_mod a h.0)
    (bytes_after (a * 256 + d) ds h.1)

-- bytes are those of their number
pub bytes_of_number : (k : ℕ) (ds : List ℕ) → length ds ≡ k → Bytes ds → bytes_high_first k (number_of ds) ≡ ds
bytes_of_number k ds e h = ap (λ j. bytes_high_first j (number_of ds)) (sym e) ∙ bytes_after 0 ds h

-- a number that fits its bytes is read back
pub number_fits : (k n : ℕ) → n < 256 ^ k → number_of (bytes_high_first k n) ≡ n
number_fits k n h = number_bytes k n ∙ mod-eq_of_lt h

pub number_below : (k : ℕ) (ds : List ℕ) → length ds ≡ k → Bytes ds → number_of ds < 256 ^ k
number_below k ds e h = rw (← e) (number_lt 256 ds h)
