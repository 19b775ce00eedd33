use Rattle.std.proofs.Common.{rules}
use Rattle.tops.specs.declared.call.TrialCall.{TrialCall}
use Rattle.tops.specs.Tallies.{trial_rules}
use Rattle.histories.specs.Replays.{Basis}
use Rattle.histories.proofs.Lenders.{same_loan, lender_closed}
use Rattle.histories.proofs.lent.replay_on_lent.Goals as goal

pub returns : goal.returns
returns g c =
    let basis : Basis TrialCall g.row.U-Own.Denot g.row.B.Denot = record { rules = trial_rules; means = g.U.Cover.means; rows = g.U.Below.Sheet.rows c.args.sheet; below = g.B.Book.meaning } in
    let closed = c.replay_and_close-answer.ensures in
    let answer = c.replay_and_close-answer.result.1 in
    let loan = same_loan basis _ _ c.args.script.now answer closed in
    let law = lender_closed basis _ _ c.args.script.now answer closed in
    search rules
