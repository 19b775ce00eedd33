-- What a valued portfolio means. Assumes nothing.
use Rattle.std.specs.Prelude.{ℕ, ℤ, Result}
use mathlib.Core.List as L
use Rattle.terms.specs.Outcomes.{Answers}
use Rattle.terms.specs.declared.fault.Fault.{Fault}
use Rattle.rules.specs.Rows.{Rows}
use Rattle.positions.specs.declared.position.Valuation.{Valuation}
use Rattle.positions.specs.declared.portfolio.Portfolio.{Portfolio}
use Rattle.positions.specs.Questions.{portfolio_fault}
use Rattle.positions.specs.Values.{AllValued}

-- what each security is in it
abbrev pub valuations_of : Portfolio → L.List Valuation
valuations_of p = p.all

-- What opening a portfolio answers: the fault of the first held security that has one, or what each security is.
abbrev pub Opens : Rows → (ℕ → ℤ) → Result Portfolio Fault → Type 0
Opens rows nets = Answers (portfolio_fault rows nets) (λ portfolio. AllValued rows nets (valuations_of portfolio))
