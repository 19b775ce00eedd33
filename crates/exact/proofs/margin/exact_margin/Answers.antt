use Rattle.positions.proofs.Agreeing.{amounts_small}
use Rattle.exact.proofs.margin.exact_margin.Goals as goal

pub settle-requires : goal.settle-requires
settle-requires g c =
    amounts_small (g.S.Sheet.rows c.args.sheet.now) (g.S.Sheet.lawful c.args.sheet.now) (g.P.Positions.nets c.args.book.now) c.in_ok-value.ensures.1.asked
