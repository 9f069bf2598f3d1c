-- The known values, computed from the definitions.
-- Assumes nothing.
use Rattle.std.proofs.Common.{refl}
use Rattle.permutation.specs.Bits.{gather}
use Rattle.permutation.specs.Permutation.{replaced, spread, round, permuted}
use Rattle.permutation.specs.Values.{KnownValues}

pub known_values : KnownValues
unfolding gather replaced spread round permuted
known_values =
    record {
      sbox_first = refl;
      sbox_last = refl;
      run_12_starts = refl;
      run_8_starts = refl;
      one_spread = refl;
      hash256 = refl;
      xof128 = refl;
      cxof128 = refl;
    }
