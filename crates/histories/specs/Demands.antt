-- What every deposit that is told keeps to. Assumes nothing.
use Rattle.std.specs.Prelude.{◌≡◌, ℕ, ◌<◌, ℤ, pos, ◌≤ℤ◌, Result}
use Rattle.terms.specs.Limits.{class_count}
use Rattle.terms.specs.Outcomes.{Answers}
use Rattle.terms.specs.declared.fault.Fault.{Fault}
use Rattle.rules.specs.Rows.{Rows}
use Rattle.rules.specs.Margin.{rounded, net_value, DOLR}
use Rattle.rules.specs.Laws.{Accurate, Matched}
use Rattle.deposits.specs.Deposits.{deposit_fault}
use Rattle.histories.specs.declared.telling.Telling.{Telling}
use Rattle.histories.specs.Tellings.{told_class, told_parts, told_leftover, Tells}

-- of these nets, over a sheet with these rows; `below` are the rows of the sheet below the top surcharge
pub record Demands (below rows : Rows) (nets : ℕ → ℤ) (t : Telling) : Type 0 where
  -- the deposit lies near the exact margin
  pub near : Accurate rows nets (pos t.summary.dspan.grosz)
  -- in each class the matched parts and the leftover make up the net value, the two parts of a pair are equal and
  -- opposite, and no pair is left with leftovers of opposite sign
  pub matched : Matched (net_value rounded rows nets) rows.pairs (told_parts t) (told_leftover t)
  -- no class owes less than nothing
  pub no_negative : (c : ℕ) → c < class_count → pos 0 ≤ℤ DOLR rounded rows nets c
  -- and none owes more over the sheet below
  pub lifted : (c : ℕ) → c < class_count → DOLR rounded below nets c ≤ℤ pos (told_class t c).dolr.grosz

-- A call for a deposit, with so many class places and so much room for matches, is refused by the first question
-- answered no, which would refuse it over the sheet below too; else its figures are the defined ones, and keep to the demands.
abbrev pub Right : ℕ → ℕ → Rows → Rows → (ℕ → ℤ) → Result Telling Fault → Type 0
Right places room below rows nets r =
    (deposit_fault below nets places room ≡ deposit_fault rows nets places room)
    × Answers (deposit_fault rows nets places room) (λ t. Tells rows nets t × Demands below rows nets t) r
