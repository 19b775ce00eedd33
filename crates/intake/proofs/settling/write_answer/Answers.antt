use Rattle.std.proofs.Common.{◌≡◌, Ok, sym, ap, ◌∙◌, subst, rules}
use Rattle.entries.specs.Intakes.{desk_of, table_nets}
use Rattle.positions.specs.Questions.{portfolio_fault}
use Rattle.sheets.specs.Sheets.{draft_rows, sheet_rows}
use Rattle.intake.specs.Answering.{answer_lines, deposit_lines}
use Rattle.intake.specs.Filling.{Fills}
use Rattle.intake.proofs.Whole.{told_whole}
use Rattle.intake.proofs.settling.write_answer.Goals as goal

pub returns-in-Ok-clause-fills : goal.returns-in-Ok-clause-fills
returns-in-Ok-clause-fills c =
    let i = c.in-Ok.field-0 in
    let rows : sheet_rows c.put_in_force.result ≡ draft_rows i.draft = search rules in
    let nets = table_nets i.book in
    let lines : deposit_lines (portfolio_fault (sheet_rows c.put_in_force.result) nets) (sheet_rows c.put_in_force.result) nets ≡ answer_lines (Ok (desk_of i)) =
    ap (λ rows. deposit_lines (portfolio_fault rows nets) rows nets) rows in
    subst (λ lines. Fills lines c.args.answer.now c.settle.result c.settle.new.answer) (lines ∙ sym (ap answer_lines c.in-Ok.ensures) ∙ told_whole c.args.text.now) c.settle.ensures.fills

pub returns-in-Err-clause-fills : goal.returns-in-Err-clause-fills
returns-in-Err-clause-fills c =
    subst (λ lines. Fills lines c.args.answer.now c.write_fault.result c.write_fault.new.answer) (sym (ap answer_lines c.in-Err.ensures) ∙ told_whole c.args.text.now) c.write_fault.ensures.fills
