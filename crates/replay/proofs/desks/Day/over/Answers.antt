use Rattle.std.proofs.Common.{◌≡◌, rules}
use Rattle.lists.specs.Lists.{lender}
use Rattle.replay.proofs.Days.{closed_each, day_of, still_lent}
use Rattle.replay.proofs.desks.Day.over.Goals as goal

pub outcome-requires : goal.outcome-requires
outcome-requires g c =
    let kept : lender c.replay_and_close-beneath.new.log ≡ lender c.over-log.result = still_lent g.T.Own.OwnCall.asked g.U.Own.OwnCall.asked _ _ c.args.self.now.orders.now c.deref.result.now _ c.replay_and_close-beneath.result.1 c.replay_and_close-beneath.ensures in
    closed_each g.T.Own.OwnCall.asked g.U.Own.OwnCall.asked _ _ c.args.self.now.orders.now c.deref.result.now _ c.replay_and_close-beneath.result.1 _ c.replay_and_close-beneath.ensures (search rules) (search rules)

pub returns : goal.returns
returns g c =
    let kept : lender c.replay_and_close-beneath.new.log ≡ lender c.over-log.result = still_lent g.T.Own.OwnCall.asked g.U.Own.OwnCall.asked _ _ c.args.self.now.orders.now c.deref.result.now _ c.replay_and_close-beneath.result.1 c.replay_and_close-beneath.ensures in
    day_of g.T.Own.OwnCall.asked g.U.Own.OwnCall.asked _ _ c.args.self.now.orders.now c.deref.result.now _ c.args.self.now.places c.replay_and_close-beneath.result.1 _ c.outcome.result c.replay_and_close-beneath.ensures (search rules) (search rules) (search rules) (search rules) (search rules) c.outcome.ensures
