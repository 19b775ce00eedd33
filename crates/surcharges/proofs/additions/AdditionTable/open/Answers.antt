use Rattle.terms.specs.Limits.{class_count}
use Rattle.surcharges.proofs.Zeros.{zeros}
use Rattle.surcharges.proofs.additions.AdditionTable.open.Goals as goal

pub returns : goal.returns
returns c = λ i. record { on_y = λ s. (zeros class_count s i).y; on_x = λ s. (zeros class_count s i).x }
