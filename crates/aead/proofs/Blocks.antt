-- Blocks written over a text one behind the other, and the rest behind them.
use Rattle.std.proofs.Common.{◌≡◌, ℕ, zero, suc, ◌+◌, ◌-◌, ◌*◌, ◌/◌, ◌≤◌, List, ◌++◌, length, drop, sym, refl, ◌∙◌, append_assoc, arith}
use borrow.Rule.Slice.PartMut.{put_mid}
use Rattle.std.proofs.lemmas.List.{length-append, take_at, drop_at, drop-drop, drop_all, append-nil, length-drop}
use Rattle.suite.specs.Words.{bytes_of}
use Rattle.std.proofs.lemmas.Bool.Decides.{nat_tests}
use Rattle.aead.specs.Bytes.{block}
use Rattle.aead.specs.Cipher.{data_blocks}
use Rattle.aead.specs.Blocks.{absorbed, rate, after_blocks, sealed_blocks}

-- a block of associated data that is absorbed begins at its end or before
pub blocks_few : (size : ℕ) → 16 * data_blocks size ≤ size + 16
unfolding data_blocks
blocks_few size = grind (arith, nat_tests)

pub length_rate : (ws : List ℕ) → length (rate ws) ≡ 16
unfolding rate bytes_of
length_rate ws = refl

pub length_covered : (n : ℕ) (ws text : List ℕ) → length (sealed_blocks n ws text) ≡ 16 * n
length_covered zero ws text = refl
length_covered (suc n) ws text =
    length-append (sealed_blocks n ws text) (rate (absorbed (after_blocks n ws text) (block text n)))
    ∙ omega (arith, length_covered n ws text, length_rate (absorbed (after_blocks n ws text) (block text n)))

-- a block written behind those before it
pub written : (i : ℕ) (p new out rest : List ℕ) → length p ≡ 16 * i → out ≡ p ++ drop (16 * i) rest
    → put_mid (16 * i) (16 * i + 16 - 16 * i) out new ≡ (p ++ new) ++ drop (16 * (i + 1)) rest
written i p new out rest long is =
    let k : 16 * i + 16 - 16 * i ≡ 16 = omega arith in
    let m : 16 * (i + 1) ≡ 16 * i + 16 = omega arith in
    rw (is, k, m, take_at p (drop (16 * i) rest) (16 * i) long, drop_at p (drop (16 * i) rest) (16 * i) long, drop-drop 16 (16 * i) rest)
    (sym (append_assoc p new (drop (16 * i + 16) rest)))

-- the rest written over, behind the whole blocks
pub rest_written : (p text now new : List ℕ) → length now ≡ length text → length p ≡ 16 * (length text / 16) → now ≡ p ++ drop (16 * (length text / 16)) text
    → put_mid (16 * (length now / 16)) (length now - 16 * (length now / 16)) now new ≡ p ++ new
rest_written p text now new size long is =
    let n = length text / 16 in
    let rest = drop (16 * n) text in
    let short : length rest ≤ length text - 16 * n = simp length-drop (omega arith) in
    rw (size, is, take_at p rest (16 * n) long, drop_at p rest (16 * n) long, drop_all (length text - 16 * n) rest short, append-nil)
