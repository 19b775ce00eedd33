use Rattle.std.proofs.Common.{◌≡◌, ℕ, ◌<◌, ◌≤◌, length, get_or, pos, sym, refl, ◌∙◌, subst, ⊎_elim, arith}
use Rattle.std.proofs.lemmas.Bool.{cases_lt}
use Rattle.std.proofs.lemmas.List.{get_or_past}
use Rattle.terms.specs.Limits.{net_limit, security_count}
use Rattle.books.specs.Books.{Within}
use Rattle.books.proofs.ledger.Ledger.with_nets_of.Given as given
use Rattle.books.proofs.ledger.Ledger.with_nets_of.Goals as goal
use Rattle.books.proofs.ledger.Ledger.with_nets_of.Goals.{After-all_nets}

long : (g : given.Over) (c : After-all_nets g) → length c.all_nets.result ≡ security_count
long g c = omega arith

-- the table has the book's nets
copied : (g : given.Over) (c : After-all_nets g) (s : ℕ) → get_or c.all_nets.result s (pos 0) ≡ g.B.Positions.nets c.args.book.now s
copied g c s =
    ⊎_elim
    (λ (h : s < security_count). c.all_nets.ensures s h)
    (λ (h : security_count ≤ s). get_or_past c.all_nets.result s (pos 0) (omega (arith, long g c)) ∙ sym (g.B.Positions.absent c.args.book.now s h))
    (cases_lt s security_count)

pub invariant_of-result : goal.invariant_of-result
invariant_of-result g c =
    let d = (goal.at.invariant_of-result g c).After-all_nets in
    record { long = long g d; limited = λ s. subst (Within net_limit) (sym (copied g d s)) (g.B.Positions.limited c.args.book.now s) }

pub returns : goal.returns
returns g c = record { nets = λ j s. copied g (goal.at.returns g c).After-all_nets s j; left = refl }
