-- The values and the published digest, computed from the definitions.
-- Assumes nothing.
use Rattle.std.proofs.Common.{refl}
use Rattle.engine.specs.Meaning.{mixed}
use Rattle.permutation.specs.Bits.{gather}
use Rattle.permutation.specs.Permutation.{permuted, replaced, round, spread}
use Rattle.suite.specs.Words.{bytes_of, word}
use Rattle.sponge.specs.Sponge.{absorbed, after_message, blocks, padded, rest_of, whole_blocks}
use Rattle.digest.specs.Functions.{digest}
use Rattle.digest.specs.Values.{KnownValues, PublishedDigest}

pub known_values : KnownValues
unfolding word padded blocks
known_values = record { empty_rest = refl; rest_of_0xff = refl; empty_message_costs = refl }

pub published_digest : PublishedDigest
unfolding gather replaced spread round permuted mixed word bytes_of padded blocks whole_blocks rest_of absorbed after_message digest
published_digest = refl
