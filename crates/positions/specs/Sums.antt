-- What a table of what the classes sum to means. Assumes nothing.
use Rattle.std.specs.Prelude.{◌≡◌, ℕ, ℤ, List, nat_lt, slice_index_or}
use Rattle.rules.specs.Rows.{Rows, Lawful}
use Rattle.rules.specs.Margin.{rounded}
use Rattle.rules.specs.Held.{Exposure, exposure_of}
use Rattle.positions.specs.declared.class_sum.ClassSum.{ClassSum}
use Rattle.positions.specs.declared.class_sums.ClassSums.{ClassSums}
use Rattle.positions.specs.declared.portfolio.Portfolio.{Portfolio}
use Rattle.positions.specs.ClassSums.{no_sum}
use Rattle.positions.specs.Portfolios.{valuations_of}
use Rattle.positions.specs.Values.{AllValued}

-- a table of the sums of the classes, and how many securities are held in all. A class is held where at least one of its securities
-- is; nothing is past the last class
abbrev pub exposure_from : List ClassSum → ℕ → Exposure
exposure_from classes securities = record {
  sums = record { bought = λ c. (slice_index_or classes c no_sum).bought.units; sold = λ c. (slice_index_or classes c no_sum).sold.units };
  held = λ c. nat_lt 0 (slice_index_or classes c no_sum).held;
  securities = securities;
}

abbrev pub exposure_in : ClassSums → Exposure
exposure_in sums = exposure_from sums.classes sums.held

-- The sums of a portfolio are those of its nets.
abbrev pub SumsUp : Portfolio → ClassSums → Type 0
SumsUp portfolio sums =
    (rows : Rows) → Lawful rows → (nets : ℕ → ℤ) → AllValued rows nets (valuations_of portfolio) → exposure_in sums ≡ exposure_of rounded rows nets
