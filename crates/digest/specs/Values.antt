-- Values that the definitions give, by computation.
-- Assumes nothing.
use Rattle.std.specs.Prelude.{◌≡◌, [], ◌∷◌}
use Rattle.suite.specs.Words.{word}
use Rattle.sponge.specs.Sponge.{padded}
use Rattle.digest.specs.Functions.{cost, digest, hash256}

pub record KnownValues : Type 0 where
  -- the empty rest of a block and the rest 0xff, padded
  pub empty_rest : word (padded []) ≡ 1
  pub rest_of_0xff : word (padded (0xff ∷ [])) ≡ 0x1ff
  -- a digest of the empty message
  pub empty_message_costs : cost hash256 0 32 ≡ 5

-- Ascon-Hash256 of the empty message
abbrev pub PublishedDigest : Type 0
PublishedDigest =
    digest hash256 [] 32
    ≡ 0x0b ∷ 0x3b ∷ 0xe5 ∷ 0x85 ∷ 0x0f ∷ 0x2f ∷ 0x6b ∷ 0x98 ∷ 0xca ∷ 0xf2 ∷ 0x9f ∷ 0x8f ∷ 0xde ∷ 0xa8 ∷ 0x9b ∷ 0x64 ∷ 0xa1 ∷ 0xfa ∷ 0x70
    ∷ 0xaa ∷ 0x24 ∷ 0x9b ∷ 0x8f ∷ 0x83 ∷ 0x9b ∷ 0xd5 ∷ 0x3b ∷ 0xaa ∷ 0x30 ∷ 0x4d ∷ 0x92 ∷ 0xb2 ∷ []
