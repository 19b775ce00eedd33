use Rattle.std.proofs.Common.{◌≡◌, ◌∙◌, arith, rules}
use Rattle.std.specs.Prelude.{count_by}
use Rattle.positions.proofs.Summing.{count_by_places}
use Rattle.terms.specs.Limits.{class_count}
use Rattle.deposits.specs.declared.records.ClassMargin.{ClassMargin}
use Rattle.deposits.specs.Told.{none}
use Rattle.deposits.proofs.total.held_classes.Goals as goal

pub returns : goal.returns
returns c =
    let cs = c.args.classes.now in
    let counted : c.count.result ≡ count_by (λ (w : ClassMargin). w.held) cs = search rules in
    counted ∙ count_by_places (λ (w : ClassMargin). w.held) cs none class_count (omega arith)
