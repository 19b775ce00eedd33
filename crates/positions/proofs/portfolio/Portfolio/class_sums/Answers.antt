use Rattle.std.proofs.Common.{rules}
use Rattle.positions.proofs.Tables.{summed_idle, summed_small}
use Rattle.positions.proofs.portfolio.Portfolio.class_sums.Goals as goal

pub invariant_of-result : goal.invariant_of-result
invariant_of-result c =
    let all = c.args.self.now.all in record {
      wide = search rules;
      small = summed_small all c.class_sums_of.result c.args.self.now.small c.class_sums_of.ensures;
      idle = summed_idle all c.class_sums_of.result c.class_sums_of.ensures;
    }
