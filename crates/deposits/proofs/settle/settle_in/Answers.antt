use Rattle.std.proofs.Common.{◌≡◌, ℕ, ◌<◌, ◌++◌, length, get_or, drop, sym, ap, ◌∙◌, arith}
use Rattle.std.proofs.Math.ListN.{drop_of_length-le}
use Rattle.lists.specs.Lists.{items, memory}
use Rattle.rules.specs.Margin.{net_in}
use Rattle.positions.specs.Sums.{exposure_in}
use Rattle.terms.specs.Limits.{class_count}
use Rattle.deposits.specs.Told.{none, told_by}
use Rattle.deposits.specs.Records.{closed}
use Rattle.deposits.proofs.Telling.{left_small, told_is, after, after_walk, owing_after, dolr_small, margins, span_is, classes_are, pairs_are, balanced}
use Rattle.deposits.proofs.settle.settle_in.Goals as goal
use Rattle.deposits.proofs.settle.settle_in.Goals.{After-sum_up}

pub walk-requires-clause-small : goal.walk-requires-clause-small
walk-requires-clause-small g c =
    left_small (g.S.Sheet.rows c.args.sheet.now) (g.S.Sheet.lawful c.args.sheet.now) c.args.sums.now c.open_classes.new.classes c.open_classes.ensures

pub close_classes-requires : goal.close_classes-requires
close_classes-requires g c =
    let rows = g.S.Sheet.rows c.args.sheet.now in
    let lawful = g.S.Sheet.lawful c.args.sheet.now in
    let xs = c.args.sums.now in
    let cs = c.open_classes.new.classes in
    let o = c.open_classes.ensures in
    let ws = c.walk.new.classes in
    owing_after rows lawful xs cs o ws (after_walk rows lawful xs cs o ws c.walk.ensures.walked)

pub sum_up-requires : goal.sum_up-requires
sum_up-requires g c =
    let rows = g.S.Sheet.rows c.args.sheet.now in
    let lawful = g.S.Sheet.lawful c.args.sheet.now in
    let xs = c.args.sums.now in
    let cs = c.open_classes.new.classes in
    let o = c.open_classes.ensures in
    let ws = c.walk.new.classes in
    let w = after_walk rows lawful xs cs o ws c.walk.ensures.walked in
    dolr_small rows lawful xs cs o c.close_classes.new.classes (λ k l. c.close_classes.ensures k l ∙ ap closed (w k l))

pub returns : goal.returns
returns g c =
    let rows = g.S.Sheet.rows c.args.sheet.now in
    let lawful = g.S.Sheet.lawful c.args.sheet.now in
    let xs = c.args.sums.now in
    let cs = c.open_classes.new.classes in
    let o = c.open_classes.ensures in
    let ws = c.walk.new.classes in
    let w = after_walk rows lawful xs cs o ws c.walk.ensures.walked in
    let ds = c.close_classes.new.classes in
    let e : (k : ℕ) → k < class_count → get_or ds k none ≡ closed (after rows lawful xs cs o k) = λ k l. c.close_classes.ensures k l ∙ ap closed (w k l) in
    let list : items c.walk.new.matches ≡ told_by (net_in (exposure_in xs).sums) rows.pairs = c.walk.ensures.items ∙ told_is rows lawful xs cs o in
    record {
      wide = omega arith;
      lender = c.walk.ensures.lender;
      deposited = record {
        classes = margins rows lawful xs cs o ds e;
        past = drop_of_length-le ds {i = class_count} (omega arith) ∙ sym (drop_of_length-le c.args.places.now {i = class_count} (omega arith));
        items = list;
        memory = c.walk.ensures.memory ∙ ap (λ l. l ++ drop (length rows.pairs) (memory c.args.matches.now)) (told_is rows lawful xs cs o);
        summary = record {
          dspan = span_is rows lawful xs cs o ds e c.sum_up.result.dspan.grosz c.sum_up.ensures.dspan;
          classes = classes_are rows lawful xs cs o ds e c.sum_up.result.classes c.sum_up.ensures.classes;
          securities = c.sum_up.ensures.securities;
          pairs = pairs_are rows lawful xs cs o ds e c.sum_up.result.pairs c.sum_up.ensures.pairs;
        };
      };
      balanced = balanced rows lawful xs cs o ds e c.walk.new.matches list;
    }
