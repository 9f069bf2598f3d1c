-- The published answer, computed from the definitions.
-- Assumes nothing.
use Rattle.std.proofs.Common.{refl}
use Rattle.engine.specs.Meaning.{mixed}
use Rattle.permutation.specs.Bits.{gather}
use Rattle.permutation.specs.Permutation.{permuted, replaced, round, spread}
use Rattle.aead.specs.Blocks.{absorbed, after_text, ciphertext, rate}
use Rattle.suite.specs.Words.{bytes_of, word}
use Rattle.aead.specs.Bytes.{block, padded}
use Rattle.aead.specs.Cipher.{data_blocks, ready, sealed, tag_of}
use Rattle.aead.specs.Values.{PublishedAnswer}

pub published_answer : PublishedAnswer
unfolding gather replaced spread round permuted mixed word bytes_of padded block absorbed rate after_text ciphertext data_blocks ready tag_of sealed
published_answer = refl
