use Rattle.std.proofs.Common.{◌≡◌}
use Rattle.rules.specs.Margin.{rounded}
use Rattle.rules.specs.Held.{exposure_of}
use Rattle.positions.specs.Sums.{exposure_in}
use Rattle.deposits.proofs.Placing.{deposits_settled, upholds_settled}
use Rattle.deposits.proofs.deposit.deposit.Given as given
use Rattle.deposits.proofs.deposit.deposit.Goals as goal
use Rattle.deposits.proofs.deposit.deposit.Goals.{After-class_sums}

-- the sums are those of the nets
same : (g : given.Over) (c : After-class_sums g) → exposure_in c.class_sums.result ≡ exposure_of rounded (g.S.Sheet.rows c.args.sheet.now) (g.P.Positions.nets c.args.book.now)
same g c =
    let h = c.in_ok-portfolio.ensures in
    c.class_sums.ensures.sums_up (g.S.Sheet.rows c.args.sheet.now) (g.S.Sheet.lawful c.args.sheet.now) (g.P.Positions.nets c.args.book.now) h.1

pub returns-clause-deposits : goal.returns-clause-deposits
returns-clause-deposits g c =
    let d = (goal.at.returns-clause-deposits g c).After-class_sums in
    deposits_settled (g.S.Sheet.rows c.args.sheet.now) (g.S.Sheet.lawful c.args.sheet.now) (g.P.Positions.nets c.args.book.now) (exposure_in c.class_sums.result) (same g d)
    c.args.classes.now c.args.matches.now c.settle.new.classes c.settle.new.matches c.in_ok-portfolio.ensures.0 c.settle.result c.settle.ensures.settles

pub returns-clause-upholds : goal.returns-clause-upholds
returns-clause-upholds g c =
    let d = (goal.at.returns-clause-upholds g c).After-class_sums in
    upholds_settled (g.S.Sheet.rows c.args.sheet.now) (g.S.Sheet.lawful c.args.sheet.now) (g.P.Positions.nets c.args.book.now) (exposure_in c.class_sums.result) (same g d)
    c.args.classes.now c.args.matches.now c.settle.new.classes c.settle.new.matches c.settle.result c.settle.ensures.settles
