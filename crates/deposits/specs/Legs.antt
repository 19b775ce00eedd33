-- The laws of credits in grosz. Assumes nothing.
use Rattle.std.specs.Prelude.{ℕ, ◌*◌, ◌^◌, ◌≤◌}
use Rattle.std.proofs.Common.{arith}
use Rattle.rules.specs.Margin.{rounded}
use Rattle.terms.specs.Limits.{whole}
use Rattle.terms.specs.Money.{grosz_units, largest}

-- the units of a percentage of a zloty unit that make a grosz
abbrev pub units_a_grosz : ℕ
units_a_grosz = whole * grosz_units

pub lowered : (crt matched : ℕ) → units_a_grosz * rounded.credit crt matched ≤ crt * matched
lowered crt matched = omega arith

pub room : whole * 2 ^ 62 ≤ units_a_grosz * largest
room = omega arith
