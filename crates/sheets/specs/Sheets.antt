-- The rows of a draft, and of a sheet in force. Assumes nothing.
use Rattle.rules.specs.Rows.{Rows}
use Rattle.sheets.specs.Filled.{table_rows}
use Rattle.sheets.specs.declared.draft.Draft.{Draft}
use Rattle.sheets.specs.declared.rate_sheet.RateSheet.{RateSheet}

abbrev pub draft_rows : Draft → Rows
draft_rows d = table_rows d.table

abbrev pub sheet_rows : RateSheet → Rows
sheet_rows s = table_rows s.table
