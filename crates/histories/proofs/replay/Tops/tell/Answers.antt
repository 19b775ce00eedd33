use Rattle.std.proofs.Common.{◌≡◌, ℕ, ◌≤◌, length, ℤ, Ok, Err, Result, refl, sym, ap, ◌∙◌, subst, arith, rules}
use mathlib.Core.List as L
use Rattle.std.proofs.lemmas.Result.{err_from_is_err_and}
use Rattle.terms.specs.declared.fault.Fault.{Fault}
use Rattle.terms.specs.Limits.{class_count, pair_limit}
use Rattle.deposits.specs.declared.records.Match.{Match}
use Rattle.lists.specs.Lists.{items, lender, memory}
use Rattle.rules.specs.Rows.{Rows, Lawful}
use Rattle.surcharges.specs.Surcharges.{with_additions}
use Rattle.books.specs.Books.{nets_of}
use Rattle.tops.specs.Tallies.{tally_nets}
use Rattle.deposits.specs.Deposits.{Deposits, Upholds}
use Rattle.histories.specs.declared.telling.Telling.{Telling}
use Rattle.histories.specs.Tellings.{telling_of}
use Rattle.histories.specs.Demands.{Right}
use Rattle.histories.specs.Memories.{answered_into, memory_of, told_into}
use Rattle.histories.proofs.Told.{few_items, right, roomy, wrote}
use Rattle.histories.proofs.replay.Tops.tell.Goals as goal

pub of-requires : goal.of-requires
of-requires g c =
    let over = g.U.Sheet.rows c.args.self.now.cover in
    let nets = g.T.Positions.nets c.args.self.now.top in
    let cs = c.args.classes.now in
    let l = c.over-list.result in
    let d = c.in_ok-summary.ensures.deposits in
    record {
      classes = omega (arith, (roomy over nets (length cs) (length (memory l)) d.0).0);
      matches = subst (λ (ms : L.List Match). length ms ≤ pair_limit) (sym c.records.ensures) (few_items over (g.U.Sheet.lawful c.args.self.now.cover) nets cs l c.deposit.new.classes c.deposit.new.matches c.in_ok-summary.summary d.1);
    }

pub returns : goal.returns
returns g c =
    let cover = c.args.self.now.cover in
    let top = c.args.self.now.top in
    let nets = g.T.Positions.nets top in
    let kept : nets ≡ tally_nets (g.T.Top.tally top) = g.met.T.Book.netted top ∙ ap nets_of (g.met.T.Top.shown top) in
    let below = g.U.Cover.under cover in
    let additions = g.U.Cover.additions cover in
    let over = g.U.Sheet.rows cover in
    let shown : over ≡ with_additions additions below = g.met.U.Cover.shown cover in
    let cs = c.args.classes.now in
    let places = c.args.matches.now in
    let l = c.over-list.result in
    let over_all : memory l ≡ places = c.over-list.ensures.memory in
    let ds = c.deposit.new.classes in
    let m = c.deposit.new.matches in
    let s = c.in_ok-summary.summary in
    let e = c.in_ok-summary.ensures in
    let room = roomy over nets (length cs) (length (memory l)) e.deposits.0 in
    let long : class_count ≤ length ds = omega (arith, room.0) in
    let told : telling_of s ds (items m) ≡ c.of.result = ap (telling_of s ds) (sym c.records.ensures) ∙ sym c.of.ensures in
    record {
      right = subst (λ (ms : L.List Match). Right (length cs) (length ms) below (with_additions additions below) (tally_nets (g.T.Top.tally top)) (Ok c.of.result)) over_all
          (subst (λ (n : ℕ → ℤ). Right (length cs) (length (memory l)) below (with_additions additions below) n (Ok c.of.result)) kept
          (subst (λ (t : Telling). Right (length cs) (length (memory l)) below (with_additions additions below) nets (Ok t)) told
          (right below (g.U.Cover.sound cover) additions nets cs l ds m s
          (subst Lawful shown (g.U.Sheet.lawful cover)) long
          (subst (λ (rows : Rows). Deposits rows nets cs l ds m (Ok s)) shown e.deposits)
          (subst (λ (rows : Rows). Upholds rows nets ds m (Ok s)) shown e.upholds))));
      written = let w : memory_of ds (memory m) ≡ told_into (memory_of cs places) c.of.result = wrote over (g.U.Sheet.lawful cover) nets cs l ds m s e.deposits.1 ∙ (λ i. told_into (memory_of cs (over_all i)) (told i)) in let name : lender m ≡ lender l = e.lender in search rules;
    }

pub returns-in_err-summary : goal.returns-in_err-summary
returns-in_err-summary g c =
    let cover = c.args.self.now.cover in
    let top = c.args.self.now.top in
    let nets = g.T.Positions.nets top in
    let kept : nets ≡ tally_nets (g.T.Top.tally top) = g.met.T.Book.netted top ∙ ap nets_of (g.met.T.Top.shown top) in
    let below = g.U.Cover.under cover in
    let additions = g.U.Cover.additions cover in
    let cs = c.args.classes.now in
    let places = c.args.matches.now in
    let l = c.over-list.result in
    let over_all : memory l ≡ places = c.over-list.ensures.memory in
    let ds = c.deposit.new.classes in
    let m = c.deposit.new.matches in
    let e = c.in_err-summary.ensures in
    let exit = err_from_is_err_and c.from_residual.result c.from_residual.ensures.1 in
    let d = subst (λ (f : Fault). Deposits (with_additions additions below) nets cs l ds m (Err f)) (sym exit.2) (subst (λ (rows : Rows). Deposits rows nets cs l ds m (Err c.in_err-summary.field-0.0)) (g.met.U.Cover.shown cover) e.deposits) in
    record {
      right = subst (λ (r : Result Telling Fault). Right (length cs) (length places) below (with_additions additions below) (tally_nets (g.T.Top.tally top)) r) (sym exit.1)
          (subst (λ (ms : L.List Match). Right (length cs) (length ms) below (with_additions additions below) (tally_nets (g.T.Top.tally top)) (Err exit.0)) over_all
          (subst (λ (n : ℕ → ℤ). Right (length cs) (length (memory l)) below (with_additions additions below) n (Err exit.0)) kept (refl, (d.0, tt))));
      written = let w : memory_of ds (memory m) ≡ answered_into (memory_of cs places) c.from_residual.result = (λ i. memory_of (d.1.0 i) (memory (d.1.1 i))) ∙ ap (memory_of cs) over_all ∙ ap (answered_into (memory_of cs places)) (sym exit.1) in let name : lender m ≡ lender l = e.lender in search rules;
    }
