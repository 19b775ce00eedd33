use Rattle.std.proofs.Common.{◌≡◌, ◌*◌, ◌≤◌, get_or}
use Rattle.terms.specs.Sums.{sum_below}
use Rattle.rules.specs.Laws.{deposit_limit}
use Rattle.deposits.specs.Told.{none}
use Rattle.deposits.proofs.total.total.Given as goal

abbrev pub invariant-loop-class : goal.invariant-loop-class
invariant-loop-class l = (l.total.grosz ≡ sum_below l.class-index (λ c. (get_or l.classes c none).dolr.grosz)) × (l.total.grosz ≤ l.class-index * deposit_limit)
