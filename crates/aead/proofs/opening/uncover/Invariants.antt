use Rattle.std.proofs.Common.{◌≡◌, ◌++◌, take, drop}
use Rattle.aead.specs.Bytes.{xored}
use Rattle.aead.proofs.opening.uncover.Given as goal

abbrev pub invariant-loop-i : goal.invariant-loop-i
invariant-loop-i l = l.bytes ≡ xored (take l.i l.initial.bytes) l.mask ++ drop l.i l.initial.bytes
