use Rattle.std.proofs.Common.{◌≡◌, ℕ, ◌<◌, get_or, ap, arith, rules}
use Rattle.lists.proofs.Filled.{filled_at}
use Rattle.sheets.specs.Readings.{rates_in}
use Rattle.terms.specs.Limits.{class_count}
use Rattle.exact.specs.declared.records.Class.{Class}
use Rattle.exact.specs.Classes.{none, nothing, class_opened}
use Rattle.exact.proofs.Telling.{risk_small}
use Rattle.exact.proofs.open.open_classes.Given as given
use Rattle.exact.proofs.open.open_classes.Goals as goal
use Rattle.exact.proofs.open.open_classes.Goals.{After-from_fn}

each : (g : given.Over) (c : After-from_fn g) (k : ℕ) → k < class_count →
    get_or c.from_fn.result k none ≡ class_opened (rates_in ((g.S.Sheet.rows c.args.sheet.now).classes k)) (get_or c.args.sums.now k nothing)
each g c k l =
    let classes = (g.S.Sheet.rows c.args.sheet.now).classes in
    filled_at _ _ (λ i. class_opened (rates_in (classes i)) (get_or c.args.sums.now i nothing)) class_count (λ i y q b h. search rules) _ c.from_fn.ensures.items k none l

pub returns-clause-opened : goal.returns-clause-opened
returns-clause-opened g c = each g (goal.at.returns-clause-opened g c).After-from_fn

pub returns-clause-small : goal.returns-clause-small
returns-clause-small g c = λ k l.
    omega (
      arith,
      ap (λ (w : Class). w.risk) (each g (goal.at.returns-clause-small g c).After-from_fn k l),
      risk_small (g.S.Sheet.rows c.args.sheet.now) (g.S.Sheet.lawful c.args.sheet.now) k (get_or c.args.sums.now k nothing) (c.requires k l),
    )
