-- What one of two means: what the chosen one means.
-- Assumes nothing.
use Rattle.layers.specs.declared.either.Either.{Either}
use Rattle.layers.specs.declared.either.Either.TheVariants.{First, Second}

abbrev pub chosen : {A B C : Type 0} → (A → C) → (B → C) → Either A B → C
chosen f g (First a) = f a
chosen f g (Second b) = g b
