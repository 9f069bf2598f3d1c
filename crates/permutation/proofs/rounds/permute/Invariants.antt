use Rattle.std.proofs.Common.{◌≡◌, take, drop, fold}
use Rattle.permutation.specs.Permutation.{constants, round}
use Rattle.permutation.proofs.rounds.permute.Given as goal

abbrev pub invariant-loop-constant : goal.invariant-loop-constant
invariant-loop-constant g l = l.state ≡ fold round l.initial.state (take l.constant-index (drop l.first constants))
