-- What every class sums to, in one table. Assumes nothing.
use Rattle.std.specs.Prelude.{◌≡◌, ℕ, ◌+◌, ◌<◌, ◌≤◌, List, slice_index_or, slice_set}
use Rattle.terms.specs.Limits.{class_count}
use Rattle.rules.specs.Laws.{sum_limit}
use Rattle.positions.specs.declared.class_sum.ClassSum.{ClassSum}
use Rattle.positions.specs.declared.position.Position.{Position}
use Rattle.positions.specs.declared.position.Valuation.{Valuation}
use Rattle.positions.specs.declared.position.Valuation.TheVariants.{Flat, Valued, Refused}
use Rattle.positions.specs.Values.{zl, as_bought, as_sold, bought_in, sold_in, count_in_lem}

-- of no position
abbrev pub no_sum : ClassSum
no_sum = record { bought = zl 0; sold = zl 0; held = 0 }

-- with one position more
abbrev pub with_held : Position → ClassSum → ClassSum
with_held p s = record {
  bought = zl (s.bought.units + as_bought p.side p.value.units);
  sold = zl (s.sold.units + as_sold p.side p.value.units);
  held = s.held + 1;
}

-- a table in which a position is added to its class
abbrev pub with_position : Valuation → List ClassSum → List ClassSum
with_position Flat sums = sums
with_position (Refused refusal) sums = sums
with_position (Valued p) sums = slice_set sums p.class (with_held p (slice_index_or sums p.class no_sum))

-- what class c sums to over the first n positions
abbrev pub class_sum : List Valuation → ℕ → ℕ → ClassSum
class_sum all n c = record { bought = zl (bought_in all c n); sold = zl (sold_in all c n); held = count_in_lem all c n }

-- this is what each class sums to over the first n positions
abbrev pub Summed : List Valuation → ℕ → List ClassSum → Type 0
Summed all n sums = (c : ℕ) → c < class_count → slice_index_or sums c no_sum ≡ class_sum all n c

-- the two sums of each class are at most the largest together
abbrev pub SmallSums : List ClassSum → Type 0
SmallSums sums = (c : ℕ) → c < class_count → (slice_index_or sums c no_sum).bought.units + (slice_index_or sums c no_sum).sold.units ≤ sum_limit

-- a class of which nothing is held sums to nothing
abbrev pub IdleSums : List ClassSum → Type 0
IdleSums sums =
    (c : ℕ) → c < class_count → (slice_index_or sums c no_sum).held ≡ 0
    → ((slice_index_or sums c no_sum).bought.units ≡ 0) × ((slice_index_or sums c no_sum).sold.units ≡ 0)
