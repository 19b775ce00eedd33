use Rattle.positions.proofs.Agreeing.{positions_listed, positions_small}
use Rattle.positions.proofs.portfolio.Portfolio.value.Goals as goal

pub invariant_of-result : goal.invariant_of-result
invariant_of-result g c =
    let rows = g.S.Sheet.rows c.args.sheet.now in
    let nets = g.P.Positions.nets c.args.book.now in
    let lawful = g.S.Sheet.lawful c.args.sheet.now in
    let p = c.in_ok-all.ensures.1 in
    record { small = positions_small rows nets c.in_ok-all.all p lawful; listed = positions_listed rows nets c.in_ok-all.all p lawful }
