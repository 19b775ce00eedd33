use Rattle.std.proofs.Common.{◌≡◌, ℤ, pos, get_or, not, ap, ◌∙◌, arith, rules}
use Rattle.std.specs.Prelude.{count_by}
use Rattle.books.specs.Books.{is_zero}
use Rattle.terms.specs.Limits.{security_count}
use Rattle.trials.specs.Trials.{laid, moves}
use Rattle.trials.proofs.Counts.{count_agrees, counted}
use Rattle.trials.proofs.trial.Trial.trial_count.Goals as goal

pub returns : goal.returns
returns g c =
    let trial = laid g.B.Book.meaning c.args.self.now in
    let xs = c.args.quantities.now in
    let by : c.count.result ≡ count_by (λ z. not (is_zero z)) xs = search rules in
    by ∙ counted (λ z. not (is_zero z)) xs security_count (omega arith)
    ∙ count_agrees (λ s. not (is_zero (get_or xs s (pos 0)))) (moves trial) security_count (λ s l. ap (λ (z : ℤ). not (is_zero z)) (c.requires s l))
