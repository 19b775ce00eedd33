-- What is told of the exact margin. Assumes nothing.
use Rattle.std.specs.Prelude.{◌≡◌, ℕ, ℤ, Result}
use Rattle.terms.specs.Outcomes.{Answers}
use Rattle.terms.specs.declared.fault.Fault.{Fault}
use Rattle.rules.specs.Rows.{Rows}
use Rattle.rules.specs.Margin.{exact, DSPAN}
use Rattle.positions.specs.Questions.{portfolio_fault}

-- The margin in 10^-19 zloty with no rounding, or the fault of the first held security that has one.
abbrev pub Margins : Rows → (ℕ → ℤ) → Result ℤ Fault → Type 0
Margins rows nets = Answers (portfolio_fault rows nets) (λ v. v ≡ DSPAN exact rows nets)
