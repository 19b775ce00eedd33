use Rattle.std.proofs.Common.{replicate, refl, ◌≡◌, ◌*◌, ◌<◌, ◌≤◌, get_or, ◌+◌, ℤ, pos, nat_abs, is_some, sym, ap, ◌∙◌, subst, arith, w64, SFits, to_z, of_z, rules}
use Rattle.std.proofs.lemmas.List.{get_or-replicate}
use Rattle.std.proofs.lemmas.Int.{to_z-of_z}
use Rattle.terms.specs.Limits.{class_count}
use Rattle.exact.specs.Sizes.{product_limit}
use Rattle.exact.specs.Classes.{nothing, plus, worth_at, SumsTo}
use Rattle.exact.proofs.Small.{product_small}
use Rattle.exact.proofs.Summing.{summed_none, Priced, priced, unlisted, class_below, room, summed_more, summed_past}
use Rattle.exact.proofs.sums.class_sums.Given as given
use Rattle.exact.proofs.sums.class_sums.Goals as goal
use Rattle.exact.proofs.sums.class_sums.Goals.{In-Some, After-worth-position, in-Some, in_default}

-- the row of the security, and the kind of its class
found : (g : given.Over) (c : In-Some g) → Priced (g.S.Sheet.rows c.args.sheet.now) ((g.S.Sheet.rows c.args.sheet.now).securities c.loop-security.security) c.in-Some.priced.row c.in-Some.priced.kind
found g c =
    let rows = g.S.Sheet.rows c.args.sheet.now in
    priced rows (rows.securities c.loop-security.security) c.in-Some.priced (sym c.priced_security.ensures.row ∙ c.in-Some.is)

below : (g : given.Over) (c : In-Some g) → c.in-Some.priced.row.class < class_count
below g c =
    let rows = g.S.Sheet.rows c.args.sheet.now in
    class_below rows (g.S.Sheet.lawful c.args.sheet.now) (rows.securities c.loop-security.security) c.in-Some.priced.row c.in-Some.priced.kind (found g c)

-- a net is handed on as its bits
net : (z n : ℤ) → SFits w64 z → z ≡ n → to_z w64 (of_z w64 z) ≡ n
net z n f e = to_z-of_z w64 z f ∙ e

pub worth-position-requires : goal.worth-position-requires
worth-position-requires g c =
    let rows = g.S.Sheet.rows c.args.sheet.now in
    let nets = g.P.Positions.nets c.args.book.now in
    let r = c.in-Some.priced.row in
    subst (λ (z : ℤ). nat_abs z * r.price * r.rate ≤ product_limit) (sym (net (get_or c.all_nets-nets.result c.loop-security.security (pos 0)) (nets c.loop-security.security) (search rules) (c.all_nets-nets.ensures c.loop-security.security c.loop-security-test.true)))
    (product_small rows nets c.requires c.loop-security.security r (found g (goal.at.worth-position-requires g c).In-Some).row)

pub bounds-sums-priced : goal.bounds-sums-priced
bounds-sums-priced g c = omega (arith, c.loop-security.invariant.long, below g (goal.at.bounds-sums-priced g c).In-Some)

worth_is : (g : given.Over) (c : After-worth-position g) → c.worth-position.result ≡ worth_at (g.P.Positions.nets c.args.book.now c.loop-security.security) c.in-Some.priced.row c.in-Some.priced.kind
worth_is g c = c.worth-position.ensures ∙ ap (λ (z : ℤ). worth_at z c.in-Some.priced.row c.in-Some.priced.kind) (net (get_or c.all_nets-nets.result c.loop-security.security (pos 0)) _ (search rules) (c.all_nets-nets.ensures c.loop-security.security c.loop-security-test.true))

pub add_worth-requires : goal.add_worth-requires
add_worth-requires g c =
    let d = (goal.at.add_worth-requires g c).In-Some in
    let rows = g.S.Sheet.rows c.args.sheet.now in
    let nets = g.P.Positions.nets c.args.book.now in
    let both = room rows nets c.loop-security.security c.in-Some.priced.row c.in-Some.priced.kind (found g d) (g.S.Sheet.lawful c.args.sheet.now) c.requires c.loop-security-test.true (below g d)
    c.loop-security.sums c.worth-position.result (worth_is g (goal.at.add_worth-requires g c).After-worth-position) c.loop-security.invariant in
    record { bought = both.0; sold = both.1 }

pub loop-security-preserved : goal.loop-security-preserved
loop-security-preserved g c =
    let rows = g.S.Sheet.rows c.args.sheet.now in
    let nets = g.P.Positions.nets c.args.book.now in
    let s = c.loop-security.security in
    let xs = c.loop-security.sums in
    elim c.match-priced_security.branch [
      | in-Some w ↦
          let r = w.in-Some.priced.row in
          let k = w.in-Some.priced.kind in
          let p = priced rows (rows.securities s) w.in-Some.priced (sym c.priced_security.ensures.row ∙ w.in-Some.is) in
          let below = class_below rows (g.S.Sheet.lawful c.args.sheet.now) (rows.securities s) r k p in
          let here : w.worth-position.result ≡ worth_at (nets s) r k =
          w.worth-position.ensures ∙ ap (λ (z : ℤ). worth_at z r k) (net (get_or c.all_nets-nets.result s (pos 0)) _ (search rules) (c.all_nets-nets.ensures s c.loop-security-test.true)) in
          subst (SumsTo rows nets (s + 1)) (sym w.sums-is)
          (summed_more rows nets s r k p xs w.add_worth.new.sums below (w.add_worth.ensures ∙ ap (plus (get_or xs r.class nothing)) here) c.loop-security.invariant)
      | in_default w ↦
          let none = unlisted (rows.securities s) (sym c.priced_security.ensures.listed ∙ ap is_some w.in_default.is) in
          subst (SumsTo rows nets (s + 1)) (sym w.sums-is) (summed_past rows nets s xs none c.loop-security.invariant)
    ]

pub loop-security-init : goal.loop-security-init
loop-security-init g c =
    let x = c.default-sums.result in
    let none : x ≡ nothing = search rules in
    summed_none (g.S.Sheet.rows c.args.sheet.now) (g.P.Positions.nets c.args.book.now) (replicate class_count x) refl (λ k l. get_or-replicate class_count k x nothing l ∙ none)
