use Rattle.std.proofs.Common.{◌≡◌, ◌∙◌, rules}
use Rattle.std.specs.Prelude.{count_by}
use Rattle.deposits.specs.Records.{both_flagged}
use Rattle.deposits.proofs.Walking.{count_is}
use Rattle.deposits.proofs.total.held_pairs.Goals as goal

pub returns : goal.returns
returns g c =
    let ps = (g.S.Sheet.rows c.args.sheet.now).pairs in
    let both = both_flagged c.args.classes.now in
    let counted : c.count.result ≡ count_by both ps = search rules in
    counted ∙ count_is both ps
