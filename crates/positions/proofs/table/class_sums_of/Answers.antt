use Rattle.std.proofs.Common.{sym, refl, ◌+◌, subst, arith}
use Rattle.std.proofs.Math.ListN.{replicate}
use Rattle.std.proofs.lemmas.List.{get_or-replicate}
use Rattle.terms.specs.Limits.{class_count}
use Rattle.positions.specs.ClassSums.{Summed, no_sum}
use Rattle.positions.proofs.Tables.{bought_room, sold_room, held_room, summed_more, summed_none}
use Rattle.positions.proofs.table.class_sums_of.Goals as goal

pub loop-valuation-init : goal.loop-valuation-init
loop-valuation-init c = (refl, summed_none c.args.all.now (replicate class_count no_sum) (λ k l. get_or-replicate class_count k no_sum no_sum l))

pub add_to-requires-clause-bought : goal.add_to-requires-clause-bought
add_to-requires-clause-bought c = bought_room c.args.all.now c.requires.small c.loop-valuation.valuation-index (omega arith) c.loop-valuation.sums c.loop-valuation.invariant.1

pub add_to-requires-clause-sold : goal.add_to-requires-clause-sold
add_to-requires-clause-sold c = sold_room c.args.all.now c.requires.small c.loop-valuation.valuation-index (omega arith) c.loop-valuation.sums c.loop-valuation.invariant.1

pub add_to-requires-clause-held : goal.add_to-requires-clause-held
add_to-requires-clause-held c = held_room c.args.all.now c.requires.small c.loop-valuation.valuation-index (omega arith) c.loop-valuation.sums c.loop-valuation.invariant.1

pub loop-valuation-preserved : goal.loop-valuation-preserved
loop-valuation-preserved c =
    let all = c.args.all.now in
    let n = c.loop-valuation.valuation-index in
    let sums = c.loop-valuation.sums in
    let inv = c.loop-valuation.invariant in
    (omega arith, subst (Summed all (n + 1)) (sym c.add_to.ensures) (summed_more all n sums inv.0 inv.1))
