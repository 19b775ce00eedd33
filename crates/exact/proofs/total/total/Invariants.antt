use Rattle.std.proofs.Common.{◌≡◌, ◌*◌, ◌≤◌, nat_abs}
use Rattle.terms.specs.Sums.{sum_belowℤ}
use Rattle.exact.specs.Owed.{owed_in}
use Rattle.exact.specs.Sizes.{owed_limit}
use Rattle.exact.proofs.total.total.Given as goal

abbrev pub invariant-loop-class : goal.invariant-loop-class
invariant-loop-class l =
    (l.total ≡ sum_belowℤ l.class-index (owed_in l.classes)) × (nat_abs l.total ≤ l.class-index * owed_limit)
