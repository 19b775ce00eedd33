use Rattle.tops.proofs.Calls.{booking_noted}
use Rattle.tops.proofs.trial_calls.TrialTop.call.Goals as goal

pub returns-in-Book-clause-tally : goal.returns-in-Book-clause-tally
returns-in-Book-clause-tally g c =
    booking_noted g.B.Book.meaning c.args.self.now c.book.new.self c.in-Book.booking c.args.call.now c.book.result c.in-Book.is c.book.ensures
