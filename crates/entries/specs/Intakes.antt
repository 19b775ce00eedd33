-- What an intake means, and what it does with a line. Assumes nothing.
use Rattle.std.specs.Prelude.{ℕ, List, ℤ, Result}
use Rattle.terms.specs.Outcomes.{Step}
use Rattle.terms.specs.declared.fault.Fault.{Fault}
use Rattle.books.specs.declared.table.NetTable.{NetTable}
use Rattle.books.specs.Ledgers.{ledger_account}
use Rattle.sheets.specs.Sheets.{draft_rows}
use Rattle.entries.specs.declared.intake.Intake.{Intake}
use Rattle.books.specs.Books.{Account, booked, nets_of}
use Rattle.sheets.specs.declared.draft.Draft.{Draft}
use Rattle.entries.specs.Desks.{Desk, booking_fault, entered, line_fault_lem, row_fault, with_line, with_row}
use Rattle.entries.specs.Entries.{Row}

-- the account of a net table
abbrev pub table_account : NetTable → Account
table_account b = ledger_account b.ledger

-- and its nets
abbrev pub table_nets : NetTable → ℕ → ℤ
table_nets b = nets_of (table_account b)

-- what an intake holds
abbrev pub desk_of : Intake → Desk
desk_of i = record { stage = i.stage; rows = draft_rows i.draft; account = table_account i.book }

-- what a draft does with a row, and a net table with a booking
abbrev pub Adds : Row → Draft → Result (Unit {0}) Fault → Draft → Type 0
Adds row before result after = Step draft_rows (row_fault (draft_rows before) row) (with_row (draft_rows before) row) before result after

abbrev pub Posts : ℕ → ℤ → NetTable → Result (Unit {0}) Fault → NetTable → Type 0
Posts s quantity before result after =
    Step table_account (booking_fault (table_account before) (entered s quantity)) (booked (table_account before) (entered s quantity)) before result after

-- what an intake does with a line
abbrev pub TakesLine : Intake → List ℕ → Result (Unit {0}) Fault → Intake → Type 0
TakesLine before line result after = Step desk_of (line_fault_lem (desk_of before) line) (with_line (desk_of before) line) before result after
