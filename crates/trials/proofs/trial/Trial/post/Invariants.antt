use Rattle.trials.proofs.Posting.{Walked}
use Rattle.trials.proofs.trial.Trial.post.Given as goal

abbrev pub invariant-loop-security : goal.invariant-loop-security
invariant-loop-security g l =
    Walked g.B.Book.meaning l.initial.self l.security l.self
