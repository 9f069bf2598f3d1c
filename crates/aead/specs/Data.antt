-- Associated data in two parts.
-- Assumes nothing.
use Rattle.std.specs.Prelude.{ℕ, List, ◌++◌}
use Rattle.aead.specs.declared.data.Joined.{Joined}

-- the bytes that the parts stand for
abbrev pub joined : Joined → List ℕ
joined d = d.front.now ++ d.back.now
