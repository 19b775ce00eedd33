use Rattle.std.proofs.Common.{◌≡◌, rules}
use Rattle.replay.specs.Scripts.{trial_call}
use Rattle.lists.specs.Lists.{lender}
use Rattle.replay.proofs.Days.{closed_each, day_of, still_lent}
use Rattle.replay.proofs.desks.Day.on_journal.Goals as goal

pub outcome-requires : goal.outcome-requires
outcome-requires g c =
    let kept : lender c.replay_on_journal-made.new.log ≡ lender c.over-log.result = still_lent trial_call g.U.Own.OwnCall.asked _ _ c.args.self.now.orders.now c.deref.result.now _ c.replay_on_journal-made.result c.replay_on_journal-made.ensures.law in
    closed_each trial_call g.U.Own.OwnCall.asked _ _ c.args.self.now.orders.now c.deref.result.now _ c.replay_on_journal-made.result _ c.replay_on_journal-made.ensures.law (search rules) (search rules)

pub returns : goal.returns
returns g c =
    let kept : lender c.replay_on_journal-made.new.log ≡ lender c.over-log.result = still_lent trial_call g.U.Own.OwnCall.asked _ _ c.args.self.now.orders.now c.deref.result.now _ c.replay_on_journal-made.result c.replay_on_journal-made.ensures.law in
    day_of trial_call g.U.Own.OwnCall.asked _ _ c.args.self.now.orders.now c.deref.result.now _ c.args.self.now.places c.replay_on_journal-made.result _ c.outcome.result c.replay_on_journal-made.ensures.law (search rules) (search rules) (search rules) (search rules) (search rules) c.outcome.ensures
