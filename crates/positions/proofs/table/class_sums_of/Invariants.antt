use Rattle.std.proofs.Common.{◌≡◌, length}
use Rattle.positions.specs.ClassSums.{Summed}
use Rattle.terms.specs.Limits.{class_count}
use Rattle.positions.proofs.table.class_sums_of.Given as goal

abbrev pub invariant-loop-valuation : goal.invariant-loop-valuation
invariant-loop-valuation l = (length l.sums ≡ class_count) × Summed l.all l.valuation-index l.sums
