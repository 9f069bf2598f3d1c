-- Output joins: runs from place to place, and the bytes that they give.
-- Assumes nothing.
use Rattle.std.proofs.Common.{add-zero, add-suc, ◌≡◌, ℕ, zero, suc, ◌+◌, List, ◌++◌, ap, arith}
use Rattle.engine.specs.Meaning.{permuted}
use Rattle.std.proofs.lemmas.List.{append_assoc, append-nil}
use Rattle.sponge.specs.Steps.{byte_at, bytes_next, runs_to}
use Rattle.sponge.specs.Sponge.{after_runs, blocks}

-- runs to a place, and on from there
pub runs_joined : (a n k : ℕ) → runs_to a (a + n) + runs_to (a + n) (a + n + k) ≡ runs_to a (a + (n + k))
unfolding runs_to blocks
runs_joined a n k = omega arith

pub runs_after : (j k : ℕ) (ws : List ℕ) → after_runs k (after_runs j ws) ≡ after_runs (j + k) ws
runs_after j zero ws = let e : j ≡ j + zero = omega arith in ap (λ (n : ℕ). after_runs n ws) e
runs_after j (suc k) ws = rw add-suc (ap (permuted 12) (runs_after j k ws))

-- a byte further on, seen from a place between
pub byte_later : (ws : List ℕ) (a n k : ℕ) → byte_at (after_runs (runs_to a (a + n)) ws) (a + n) (a + n + k) ≡ byte_at ws a (a + (n + k))
unfolding byte_at
byte_later ws a n k =
    let r = runs_joined a n (k + 1) in
    let s = runs_after (runs_to a (a + n)) (runs_to (a + n) (a + n + k + 1)) ws in
    grind arith

pub bytes_joined : (n k : ℕ) (ws : List ℕ) (a : ℕ)
    → bytes_next n ws a ++ bytes_next k (after_runs (runs_to a (a + n)) ws) (a + n) ≡ bytes_next (n + k) ws a
bytes_joined n zero ws a =
    rw add-zero (append-nil (bytes_next n ws a))
bytes_joined n (suc k) ws a =
    let b = byte_later ws a n k in
    let j = bytes_joined n k ws a in
    rw add-suc (grind (arith, append_assoc))
