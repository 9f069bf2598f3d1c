-- The laws of runs.
-- Assumes nothing.
use Rattle.std.proofs.Common.{rules}
use Rattle.engine.specs.Runs.{RunsAddUp}

pub runs_add_up : RunsAddUp
runs_add_up = search rules
