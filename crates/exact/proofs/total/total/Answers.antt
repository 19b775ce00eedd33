use Rattle.std.proofs.Common.{◌≡◌, ℕ, ◌+◌, ℤ, ◌+ℤ◌, sym, ap, ◌∙◌, arith}
use borrow.Author.Differences.{ints}
use Rattle.terms.specs.Sums.{sum_belowℤ}
use Rattle.rules.proofs.Sums.{sumℤ_more, sumℤ_none}
use Rattle.exact.specs.Owed.{owed_in}
use Rattle.exact.proofs.total.total.Goals as goal
use Rattle.exact.proofs.total.total.Goals.{After-owed-total}

pub loop-class-init : goal.loop-class-init
loop-class-init c = (sym (sumℤ_none _), omega arith)

-- the sum with this class
more : (c : After-owed-total) → sum_belowℤ (c.loop-class.class-index + 1) (owed_in c.args.classes.now) ≡ sum_belowℤ c.loop-class.class-index (owed_in c.args.classes.now) +ℤ c.owed-total.result
more c =
    let f : ℕ → ℤ = owed_in c.args.classes.now in
    sumℤ_more c.loop-class.class-index f ∙ ap (λ (z : ℤ). sum_belowℤ c.loop-class.class-index f +ℤ z) (sym c.owed-total.ensures.owed)

pub loop-class-preserved : goal.loop-class-preserved
loop-class-preserved c = (
  omega (arith, ints, c.loop-class.invariant.0, c.loop-class.invariant.1, c.owed-total.ensures.small, more c),
  omega (arith, ints, c.loop-class.invariant.1, c.owed-total.ensures.small),
)
