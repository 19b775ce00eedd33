use Rattle.std.proofs.Common.{◌≡◌, ℕ, ◌<◌, ◌≤◌, length, get_or, pos}
use Rattle.terms.specs.Limits.{security_count}
use Rattle.trials.specs.Trials.{laid}
use Rattle.trials.proofs.trial.Trial.quantities.Given as goal

abbrev pub invariant-loop-security : goal.invariant-loop-security
invariant-loop-security g l =
    let below = g.B.Positions.nets l.self.below in
    record {
      long : length l.quantities ≡ security_count;
      found : (s : ℕ) → s < l.security → get_or l.quantities s (pos 0) ≡ (laid g.B.Book.meaning l.self s).net;
      left : (s : ℕ) → l.security ≤ s → s < security_count → get_or l.quantities s (pos 0) ≡ below s;
    }
