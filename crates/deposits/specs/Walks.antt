-- What the walk over the pairs does to the class records and to the match list. Assumes nothing.
use Rattle.std.specs.Prelude.{◌≡◌, ℕ, ◌<◌, ◌++◌, length, drop, slice_index_or}
use mathlib.Core.List as L
use Rattle.terms.specs.Limits.{class_count}
use Rattle.lists.specs.declared.list.List.{List}
use Rattle.lists.specs.Lists.{items, lender, memory}
use Rattle.rules.specs.declared.rows.PairRow.{PairRow}
use Rattle.rules.specs.Margin.{rounded, leftovers, credits}
use Rattle.deposits.specs.declared.records.ClassMargin.{ClassMargin}
use Rattle.deposits.specs.declared.records.Match.{Match}
use Rattle.deposits.specs.Told.{none, told_by}
use Rattle.deposits.specs.Records.{left_of, walked}

-- From the records cs and the list l to ds and m: each class has its leftover and its credits, and the list has one match a pair at
-- the front of its memory.
pub record Walked (ps : L.List PairRow) (cs : L.List ClassMargin) (l : List Match) (ds : L.List ClassMargin) (m : List Match) : Type 0 where
  pub walked : (c : ℕ) → c < class_count → slice_index_or ds c none ≡ walked (slice_index_or cs c none) (leftovers (left_of cs) ps c) (credits rounded (left_of cs) ps c)
  pub lender : lender m ≡ lender l
  pub items : items m ≡ told_by (left_of cs) ps
  pub memory : memory m ≡ told_by (left_of cs) ps ++ drop (length ps) (memory l)
