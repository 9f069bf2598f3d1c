use Rattle.std.proofs.Common.{◌++◌, take}
use Rattle.engine.specs.Of.{meaning}
use Rattle.sponge.specs.Held.{part_of}
use Rattle.sponge.proofs.Taking.{Taken}
use Rattle.sponge.proofs.absorbing.absorb_bytes.Given as goal

abbrev pub invariant-loop-byte : goal.invariant-loop-byte
invariant-loop-byte g l =
    Taken (meaning g.E.Engine l.initial.engine) (part_of l.initial.block ++ take l.byte-index l.piece)
    (meaning g.E.Engine l.engine) (part_of l.block)
