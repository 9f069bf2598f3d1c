use Rattle.std.proofs.Common.{◌≡◌}
use Rattle.permutation.specs.OneColumn.{gathered}
use Rattle.permutation.proofs.columns.look_up.Given as goal

abbrev pub invariant-loop-j : goal.invariant-loop-j
invariant-loop-j l = l.y ≡ gathered l.x l.j
