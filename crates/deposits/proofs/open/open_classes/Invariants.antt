use Rattle.std.proofs.Common.{◌≡◌, ℕ, ◌<◌, length, get_or}
use Rattle.positions.specs.ClassSums.{no_sum}
use Rattle.terms.specs.Limits.{class_count}
use Rattle.deposits.specs.Told.{none}
use Rattle.deposits.specs.Records.{class_opened}
use Rattle.deposits.proofs.open.open_classes.Given as goal

abbrev pub invariant-loop-class : goal.invariant-loop-class
invariant-loop-class g l =
    (length l.classes ≡ class_count)
    × ((k : ℕ) → k < l.class → get_or l.classes k none ≡ class_opened (g.S.Sheet.rows l.sheet) (get_or l.sums.classes k no_sum) k)
