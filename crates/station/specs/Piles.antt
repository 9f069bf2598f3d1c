-- What the chosen engine means under its quotas.
-- Assumes nothing.
use Rattle.std.specs.Prelude.{ℕ, List, []}
use Rattle.engine.specs.Allowance.{smaller}
use Rattle.engine.specs.Meaning.{Meaning}
use Rattle.engine.specs.declared.allowance.Allowance.{Allowance}
use Rattle.engine.specs.declared.allowance.Allowance.TheVariants.{Unlimited}
use Rattle.layers.specs.Chosen.{chosen}
use Rattle.station.specs.Built.{Chosen, Pile}

abbrev pub chosen_words : Chosen → List ℕ
chosen_words = chosen (λ e. e.words) (λ e. e.words)

abbrev pub chosen_allowance : Chosen → Allowance
chosen_allowance = chosen (λ e. Unlimited) (λ e. Unlimited)

-- the words of the engine under the quotas, and the smallest of their counts
abbrev pub pile_meaning : Pile → Meaning
pile_meaning p =
    record {
      words = chosen chosen_words (chosen (λ q. chosen_words q.engine) (λ q. chosen_words q.engine.engine)) p;
      allowance =
          chosen chosen_allowance (chosen (λ q. smaller q.count (chosen_allowance q.engine))
          (λ q. smaller q.count (smaller q.engine.count (chosen_allowance q.engine.engine)))) p;
      loans = [];
    }
