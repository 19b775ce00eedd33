use Rattle.std.proofs.Common.{◌≡◌, ◌∙◌, arith, rules}
use Rattle.std.specs.Prelude.{count_by}
use Rattle.terms.specs.Limits.{security_count}
use Rattle.positions.specs.declared.position.Valuation.TheVariants.{Flat}
use Rattle.positions.specs.Values.{is_valued_lem}
use Rattle.positions.proofs.Summing.{count_by_places}
use Rattle.positions.proofs.table.count_of.Goals as goal

pub returns : goal.returns
returns c =
    let all = c.args.all.now in
    let counted : c.count.result ≡ count_by is_valued_lem all = search rules in
    counted ∙ count_by_places is_valued_lem all Flat security_count (omega arith)
