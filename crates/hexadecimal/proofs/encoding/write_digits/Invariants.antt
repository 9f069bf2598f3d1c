use Rattle.std.proofs.Common.{◌≡◌, ◌*◌, take}
use Rattle.hexadecimal.specs.Hexadecimal.{encoded}
use Rattle.hexadecimal.proofs.encoding.write_digits.Given as goal

abbrev pub invariant-loop-k : goal.invariant-loop-k
invariant-loop-k l = take (2 * l.k) l.text ≡ encoded (take l.k l.bytes)
