-- The fixed table: the rates of the seven duration classes of January 2020, with two bonds of class 2. Assumes nothing.
use Rattle.std.specs.Prelude.{ℕ, [], ◌∷◌, Some, None, Option, refl}
use Rattle.terms.specs.declared.choice.ClassKind.TheVariants.{Duration}
use Rattle.rules.specs.declared.rows.ClassRow.{ClassRow}
use Rattle.rules.specs.declared.rows.SecurityRow.{SecurityRow}
use Rattle.rules.specs.Rows.{Lawful}
use Rattle.rules.specs.Tables.{Table, rows_of}
use Rattle.rules.proofs.Tables.{table_lawful}

-- a duration class, with x, y and dep in 10^-5 of the whole
abbrev pub rates : ℕ → ℕ → ℕ → Option ClassRow
rates x y dep = Some (record { kind = Duration; y = y; x = x; dep = dep })

-- a bond of class 2 that is quoted in zloty
abbrev pub bond : ℕ → ℕ → Option SecurityRow
bond price duration = Some (record { class = 2; price = price; rate = 10000; duration = duration })

-- classes 1 to 7, securities 0 and 1, and no pairs
abbrev pub rates_2020 : Table
rates_2020 = record {
  class_rows =
      None
      ∷ rates 150 590 630
      ∷ rates 80 330 280
      ∷ rates 140 560 540
      ∷ rates 2000 590 630
      ∷ rates 2000 330 280
      ∷ rates 2000 560 540
      ∷ rates 15000 590 620
      ∷ [];
  security_rows = bond 11264000 2635786 ∷ bond 10518200 2977599 ∷ [];
  pair_rows = [];
}

-- the rows obey the laws of a sheet, by one test over the whole table
pub rates_2020_lawful : Lawful (rows_of rates_2020)
rates_2020_lawful = table_lawful rates_2020 refl
