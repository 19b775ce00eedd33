use Rattle.std.proofs.Common.{◌≡◌, ◌^◌, ◌++◌, length, map, get_or, drop, ap, ◌∙◌, arith}
use mathlib.Core.List as L
use Rattle.lists.specs.Lists.{memory}
use Rattle.rules.specs.Margin.{rounded}
use Rattle.spreads.specs.declared.spread.Spread.{Spread}
use Rattle.spreads.specs.Legs.{Walked, no_spread, spreads_of}
use Rattle.spreads.proofs.Walking.{sounds, spreads_length, spreads_small}
use Rattle.deposits.specs.Records.{left_of, walked}
use Rattle.deposits.specs.Told.{none, told_by, told_of}
use Rattle.deposits.proofs.Walking.{told_spreads}
use Rattle.deposits.proofs.walk.walk.Given as given
use Rattle.deposits.proofs.walk.walk.Goals as goal
use Rattle.deposits.proofs.walk.walk.Goals.{After-as_slice}

-- what the walk leaves, and the pairs that it told
done : (g : given.Over) (c : After-as_slice g) → Walked rounded (λ w. w.leftover.net) walked (g.S.Sheet.rows c.args.sheet.now).pairs none c.args.classes.now c.walk-spreads.new.legs c.walk-spreads.result.items
done g c = c.walk-spreads.ensures none (record { wide = omega arith; credits = c.requires.fresh; small = c.requires.small })

told : (g : given.Over) (c : After-as_slice g) → c.as_slice.result.now ≡ spreads_of (left_of c.args.classes.now) (g.S.Sheet.rows c.args.sheet.now).pairs
told g c = c.as_slice.ensures.value ∙ (done g c).spreads

pub tell-requires : goal.tell-requires
tell-requires g c =
    let d = (goal.at.tell-requires g c).After-as_slice in
    let rows = g.S.Sheet.rows c.args.sheet.now in
    let lawful = g.S.Sheet.lawful c.args.sheet.now in
    let f = left_of c.args.classes.now in
    record {
      room = omega (arith, ap length (told g d), spreads_length f rows.pairs, lawful.few_pairs, c.requires.room);
      small = λ i. omega (arith, ap (λ (xs : L.List Spread). (get_or xs i no_spread).matched) (told g d), spreads_small f rows.pairs (sounds rows lawful) (2 ^ 62) c.requires.small i);
    }

pub returns : goal.returns
returns g c =
    let d = (goal.at.returns g c).After-as_slice in
    let ps = (g.S.Sheet.rows c.args.sheet.now).pairs in
    let f = left_of c.args.classes.now in
    let list : map told_of c.as_slice.result.now ≡ told_by f ps = ap (map told_of) (told g d) ∙ told_spreads f ps in
    let count : length c.as_slice.result.now ≡ length ps = ap length (told g d) ∙ spreads_length f ps in
    let mem = memory c.args.matches.now in
    record {
      walked = (done g d).legs;
      lender = c.tell.ensures.lender;
      items = c.tell.ensures.items ∙ list;
      memory = c.tell.ensures.memory ∙ ap (λ xs. xs ++ drop (length c.as_slice.result.now) mem) list ∙ ap (λ n. told_by f ps ++ drop n mem) count;
    }
