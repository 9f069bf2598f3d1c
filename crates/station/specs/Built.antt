-- The engine that the operator chose, with the quotas set on it, as it is built.
-- Assumes nothing.
use Rattle.std.specs.Prelude.{◌≡◌}
use Rattle.engine.specs.Runs.{zero_words}
use Rattle.engines.specs.declared.software.Software.{Software}
use Rattle.layers.specs.declared.either.Either.{Either}
use Rattle.layers.specs.declared.either.Either.TheVariants.{First, Second}
use Rattle.layers.specs.declared.quota.Quota.{Quota}
use Rattle.permutation.specs.declared.columns.Columns.{Columns}
use Rattle.permutation.specs.declared.words.Words.{Words}
use Rattle.station.specs.declared.command.Kind.{Kind}
use Rattle.station.specs.declared.command.Kind.TheVariants.{Word, Column}
use Rattle.station.specs.declared.command.Quotas.{Quotas}
use Rattle.station.specs.declared.command.Quotas.TheVariants.{Off, One, Two}

abbrev pub Chosen : Type 0
Chosen = Either (Software Words) (Software Columns)

abbrev pub Pile : Type 0
Pile = Either Chosen (Either (Quota Chosen) (Quota (Quota Chosen)))

-- an engine of this kind, with zero words
abbrev pub Fresh : Kind → Chosen → Type 0
Fresh Word (First e) = e.words ≡ zero_words
Fresh Word (Second e) = ⊥
Fresh Column (First e) = ⊥
Fresh Column (Second e) = e.words ≡ zero_words

-- a new engine of this kind, under these quotas, the first above
abbrev pub Built : Kind → Quotas → Pile → Type 0
Built k Off (First e) = Fresh k e
Built k Off (Second q) = ⊥
Built k (One n) (First e) = ⊥
Built k (One n) (Second (First q)) = (q.count ≡ n) × Fresh k q.engine
Built k (One n) (Second (Second q)) = ⊥
Built k (Two n m) (First e) = ⊥
Built k (Two n m) (Second (First q)) = ⊥
Built k (Two n m) (Second (Second q)) = (q.count ≡ n) × (q.engine.count ≡ m) × Fresh k q.engine.engine
