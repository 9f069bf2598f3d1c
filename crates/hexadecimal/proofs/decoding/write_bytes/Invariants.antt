use Rattle.std.proofs.Common.{◌≡◌, map, take}
use Rattle.hexadecimal.specs.Hexadecimal.{byte_of}
use Rattle.hexadecimal.proofs.decoding.write_bytes.Given as goal

abbrev pub invariant-loop-k : goal.invariant-loop-k
invariant-loop-k l = take l.k l.bytes ≡ map byte_of (take l.k l.pairs)
