-- What the rows of a draft and of a sheet in force mean. Assumes nothing.
use Rattle.rules.specs.Rows.{Rows, Lawful}
use Rattle.rules.specs.Tables.{Table, rows_of}
use Rattle.rules.proofs.Tables.{table_lawful}
use Rattle.sheets.specs.declared.table.RowTable.{RowTable}

-- the rows by number, and the pairs in their order
abbrev pub table_of : RowTable → Table
table_of t = record { class_rows = t.classes; security_rows = t.securities; pair_rows = t.pairs.items }

abbrev pub table_rows : RowTable → Rows
table_rows t = rows_of (table_of t)

-- they obey the laws of a sheet
pub table_lawful_rows : (t : RowTable) → Lawful (table_rows t)
table_lawful_rows t = table_lawful (table_of t) t.lawful
