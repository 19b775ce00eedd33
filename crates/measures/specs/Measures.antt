-- A deposit beside the exact margin. Assumes nothing.
use Rattle.std.specs.Prelude.{◌≡◌, ℕ, ◌*◌, ◌^◌, ◌≤◌, length, ℤ, pos, ◌-ℤ◌, ◌*ℤ◌, Result, unsigned_abs}
use mathlib.Core.List as L
use Rattle.terms.specs.Outcomes.{Outcome}
use Rattle.terms.specs.declared.fault.Fault.{Fault}
use Rattle.terms.specs.declared.money.Grosz.{Grosz}
use Rattle.lists.specs.declared.list.List.{List}
use Rattle.lists.specs.Lists.{memory}
use Rattle.rules.specs.Rows.{Rows}
use Rattle.rules.specs.Margin.{exact, rounded, DSPAN}
use Rattle.rules.specs.Held.{exposure_of, securities_held, classes_held, pairs_held}
use Rattle.rules.specs.Laws.{accuracy_bound_lem}
use Rattle.deposits.specs.declared.records.ClassMargin.{ClassMargin}
use Rattle.deposits.specs.declared.records.Match.{Match}
use Rattle.deposits.specs.Deposits.{Deposited, deposit_fault}
use Rattle.measures.specs.declared.record.Measure.{Measure}

-- how far a deposit and an exact margin are apart; a grosz is 10^17 units of the exact margin
abbrev pub gap_of : Grosz → ℤ → ℕ
gap_of deposit margin = unsigned_abs (pos deposit.grosz *ℤ pos (10 ^ 17) -ℤ margin)

-- what is measured of an accepted deposit
pub record Measured (rows : Rows) (nets : ℕ → ℤ) (x : Measure) : Type 0 where
  pub margin : x.exact ≡ DSPAN exact rows nets
  pub gap : x.gap ≡ gap_of x.summary.dspan (DSPAN exact rows nets)
  pub bound : x.bound ≡ accuracy_bound_lem (classes_held rows nets) (securities_held nets) (pairs_held rows nets)
  -- the gap is no larger than the bound, which counts thousandths of a grosz
  pub near : 1000 * x.gap ≤ x.bound * 10 ^ 17

-- A deposit that is accepted is told as any deposit, and measured; a refused one changes nothing.
abbrev pub Measures : Rows → (ℕ → ℤ) → L.List ClassMargin → List Match → L.List ClassMargin → List Match → Result Measure Fault → Type 0
Measures rows nets cs l ds m =
    Outcome (deposit_fault rows nets (length cs) (length (memory l)))
    (λ x. Deposited rows (exposure_of rounded rows nets) cs l ds m x.summary × Measured rows nets x)
    ((ds ≡ cs) × (m ≡ l))
