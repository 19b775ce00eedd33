use Rattle.terms.specs.Limits.{class_count, security_count}
use Rattle.sheets.proofs.Places.{nothing_filled}
use Rattle.sheets.proofs.table.RowTable.empty.Goals as goal

pub returns : goal.returns
returns c = rw c.new.ensures (nothing_filled class_count security_count)
