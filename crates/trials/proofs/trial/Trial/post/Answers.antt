use Rattle.std.proofs.Common.{sym, ap, ◌∙◌, arith}
use Rattle.books.specs.Ledgers.{ledger_absent, ledger_account}
use Rattle.books.proofs.Accounts.{same_holding}
use Rattle.trials.proofs.Posting.{walked_all}
use Rattle.trials.proofs.trial.Trial.post.Goals as goal

pub returns : goal.returns
returns g c =
    let start = c.args.self.now in
    let all = walked_all g.B.Book.meaning start c.loop-security.self c.loop-security.security (omega arith)
    (λ s h. same_holding _ _ (ledger_absent start.above s h ∙ sym (g.B.Positions.absent start.below s h) ∙ ap (λ n. n s) (g.met.B.Book.netted start.below)))
    c.loop-security.invariant in
    record { above = all.0; still = ap (λ a. (ledger_account a).holdings) all.0; holdings = all.1; left = all.2; taken = all.3 }
