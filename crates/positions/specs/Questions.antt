-- The questions that a deposit puts to each held security, by rising number. Assumes nothing.
use Rattle.std.specs.Prelude.{ℕ, zero, suc, cond, ℤ, is_some, None, Option, nat_le, unsigned_abs}
use Rattle.terms.specs.Limits.{security_count, amount_limit}
use Rattle.terms.specs.Questions.{ask, or_else}
use Rattle.terms.specs.Refusals.{refused_at}
use Rattle.terms.specs.declared.fault.Fault.{Fault}
use Rattle.terms.specs.declared.refusal.Refusal.{Refusal}
use Rattle.terms.specs.declared.refusal.Refusal.TheVariants.{SecurityWithoutRow, AmountTooLarge}
use Rattle.rules.specs.declared.rows.SecurityRow.{SecurityRow}
use Rattle.rules.specs.Rows.{Rows}
use Rattle.rules.specs.Margin.{amount_of}
use Rattle.rules.specs.Held.{held}

-- the questions put to q units at a row: is there a row, and is their amount A within the limit?
abbrev pub row_refusal : ℕ → Option SecurityRow → Option Refusal
row_refusal q row =
    ask (is_some row) SecurityWithoutRow
    (ask (nat_le (amount_of q row) amount_limit) AmountTooLarge
    None)

-- a security that is not held is asked nothing
abbrev pub held_refusal : Rows → (ℕ → ℤ) → ℕ → Option Refusal
held_refusal rows nets s = cond (held nets s) (row_refusal (unsigned_abs (nets s)) (rows.securities s)) None

-- the fault of a security, if it has one
abbrev pub held_fault : Rows → (ℕ → ℤ) → ℕ → Option Fault
held_fault rows nets s = refused_at s (held_refusal rows nets s)

-- the first fault among the numbers below n
unfoldable pub first_below : ℕ → (ℕ → Option Fault) → Option Fault
first_below zero f = None
first_below (suc n) f = or_else (first_below n f) (f n)

-- the fault of a portfolio: that of the first held security which has one
abbrev pub portfolio_fault : Rows → (ℕ → ℤ) → Option Fault
portfolio_fault rows nets = first_below security_count (held_fault rows nets)
