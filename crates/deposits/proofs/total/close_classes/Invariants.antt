use Rattle.std.proofs.Common.{◌≡◌, ℕ, ◌<◌, ◌≤◌, length, get_or}
use Rattle.terms.specs.Limits.{class_count}
use Rattle.deposits.specs.Told.{none}
use Rattle.deposits.specs.Records.{closed}
use Rattle.deposits.proofs.total.close_classes.Given as goal

abbrev pub invariant-loop-class : goal.invariant-loop-class
invariant-loop-class l =
    (length l.classes ≡ class_count)
    × ((k : ℕ) → k < l.class-index → get_or l.classes k none ≡ closed (get_or l.initial.classes k none))
    × ((k : ℕ) → l.class-index ≤ k → get_or l.classes k none ≡ get_or l.initial.classes k none)
