use Rattle.std.proofs.Common.{◌∙◌, SFits, rules, arith}
use mir.Syntax.{w128}
use Rattle.std.proofs.lemmas.Int.{to_z-of_z}
use Rattle.rules.specs.Margin.{exact}
use Rattle.spreads.specs.Legs.{Walked}
use Rattle.exact.specs.Classes.{none, walked}
use Rattle.exact.proofs.Telling.{fresh, small, small_walked, total_is}
use Rattle.exact.proofs.margin.settle.Given as given
use Rattle.exact.proofs.margin.settle.Goals as goal
use Rattle.exact.proofs.margin.settle.Goals.{After-walk}

-- what the walk leaves
done : (g : given.Over) (c : After-walk g) → Walked exact (λ w. w.leftover) walked (g.S.Sheet.rows c.args.sheet.now).pairs none c.open_classes-classes.result c.walk.new.legs c.walk.result.items
done g c =
    c.walk.ensures none
    (fresh (g.S.Sheet.rows c.args.sheet.now) (g.S.Sheet.lawful c.args.sheet.now) (g.P.Positions.nets c.args.book.now) c.requires c.class_sums.result c.class_sums.ensures
    c.open_classes-classes.result c.open_classes-classes.ensures.opened (omega arith))

pub open_classes-classes-requires : goal.open_classes-classes-requires
open_classes-classes-requires g c =
    small (g.S.Sheet.rows c.args.sheet.now) (g.S.Sheet.lawful c.args.sheet.now) (g.P.Positions.nets c.args.book.now) c.requires c.class_sums.result c.class_sums.ensures

pub total-requires : goal.total-requires
total-requires g c =
    let d = (goal.at.total-requires g c).After-walk in
    let rows = g.S.Sheet.rows c.args.sheet.now in
    let lawful = g.S.Sheet.lawful c.args.sheet.now in
    let nets = g.P.Positions.nets c.args.book.now in
    let xs = c.class_sums.result in
    let cs = c.open_classes-classes.result in
    small_walked rows lawful nets c.requires xs c.class_sums.ensures cs c.open_classes-classes.ensures.opened c.walk.new.legs c.walk.result.items (done g d) c.open_classes-classes.ensures.small

pub returns : goal.returns
returns g c =
    let d = (goal.at.returns g c).After-walk in
    let rows = g.S.Sheet.rows c.args.sheet.now in
    let lawful = g.S.Sheet.lawful c.args.sheet.now in
    let nets = g.P.Positions.nets c.args.book.now in
    let xs = c.class_sums.result in
    let cs = c.open_classes-classes.result in
    let f : SFits w128 c.total.result = search rules in
    to_z-of_z w128 c.total.result f ∙ c.total.ensures ∙ total_is rows lawful nets c.requires xs c.class_sums.ensures cs c.open_classes-classes.ensures.opened c.walk.new.legs c.walk.result.items (done g d)
