use Rattle.std.proofs.Common.{subst}
use Rattle.entries.specs.Intakes.{table_nets}
use Rattle.terms.proofs.Answered.{asked}
use Rattle.positions.specs.Questions.{portfolio_fault}
use Rattle.sheets.specs.Sheets.{sheet_rows}
use Rattle.intake.specs.Filling.{Fills, Stands}
use Rattle.intake.proofs.Told.{deposit_told}
use Rattle.intake.proofs.settling.settle.Goals as goal

pub returns-in-Ok : goal.returns-in-Ok
unfolding Stands
returns-in-Ok c =
    let rows = sheet_rows c.args.sheet.now in
    let nets = table_nets c.args.book.now in
    let told = c.in-Ok.ensures.deposits in
    let passed = asked _ _ _ told.0 in
    record {
      fills = subst (λ lines. Fills lines c.args.answer.now c.write_deposit.result c.write_deposit.new.answer)
          (deposit_told rows nets (portfolio_fault rows nets) passed.1 _ told.1.classes _ told.1.summary) c.write_deposit.ensures.fills;
    }
