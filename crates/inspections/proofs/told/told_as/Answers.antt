use Rattle.inspections.proofs.Bytes.{told_refused}
use Rattle.inspections.proofs.told.told_as.Goals as goal

pub returns-in-Err : goal.returns-in-Err
returns-in-Err c = told_refused c.args.line.digits.now c.in-Err.field-0 c.in-Err.ensures
