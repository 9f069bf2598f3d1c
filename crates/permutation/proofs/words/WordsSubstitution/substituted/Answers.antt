use Rattle.std.proofs.Common.{rules}
use Rattle.permutation.proofs.Sbox.{evaluated_substitutes}
use Rattle.permutation.proofs.words.WordsSubstitution.substituted.Goals as goal

pub returns : goal.returns
returns c =
    record { every_column_replaced = evaluated_substitutes c.equations.result c.args.x (search rules) c.equations.ensures.equations_evaluated }
