-- What is read of a sheet more than one row at a time. Assumes nothing.
use Rattle.std.specs.Prelude.{ℕ, Some, None, Option}
use Rattle.rules.specs.declared.position.PricedSecurity.{PricedSecurity}
use Rattle.rules.specs.declared.rows.ClassRow.{ClassRow}
use Rattle.rules.specs.declared.rows.SecurityRow.{SecurityRow}
use Rattle.rules.specs.Rows.{Rows, figure}
use Rattle.sheets.specs.declared.rates.Rates.{Rates}

-- the three rates of a class as numbers
pub record Figures : Type 0 where
  pub y : ℕ
  pub x : ℕ
  pub dep : ℕ

abbrev pub figures_of : Rates → Figures
figures_of r = record { y = r.y; x = r.x; dep = r.dep }

-- the rates of a class, 0 where it has no row
abbrev pub rates_in : Option ClassRow → Figures
rates_in row = record { y = figure (λ r. r.y) row; x = figure (λ r. r.x) row; dep = figure (λ r. r.dep) row }

-- a security's row beside the kind of its class
abbrev pub beside : SecurityRow → Option ClassRow → Option PricedSecurity
beside r (Some class) = Some (record { row = r; kind = class.kind })
beside r None = None

abbrev pub with_kind : Rows → Option SecurityRow → Option PricedSecurity
with_kind rows (Some r) = beside r (rows.classes r.class)
with_kind rows None = None
