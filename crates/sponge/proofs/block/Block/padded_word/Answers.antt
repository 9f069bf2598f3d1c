use Rattle.std.proofs.Common.{rules}
use Rattle.sponge.proofs.Placing.{word_padded}
use Rattle.sponge.proofs.block.Block.padded_word.Goals as goal

pub returns : goal.returns
returns c = search (rules, word_padded, c.fill.ensures.after)
