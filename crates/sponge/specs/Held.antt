-- What a block of the code holds.
-- Assumes nothing.
use Rattle.std.specs.Prelude.{ℕ, List, take}
use Rattle.sponge.specs.declared.block.Block.{Block}

-- the bytes of a block that is not yet whole
abbrev pub part_of : Block → List ℕ
part_of b = take b.filled b.bytes
