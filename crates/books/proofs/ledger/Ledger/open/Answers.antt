use Rattle.std.proofs.Common.{pos, sym, refl, subst, arith, rules}
use Rattle.terms.specs.Limits.{net_limit, security_count}
use Rattle.books.specs.Books.{Within}
use Rattle.books.proofs.Limits.{zeros}
use Rattle.books.proofs.ledger.Ledger.open.Goals as goal

pub invariant_of-result : goal.invariant_of-result
invariant_of-result c =
    let none : Within net_limit (pos 0) = omega arith in
    record { long = search rules; limited = λ s. subst (Within net_limit) (sym (zeros security_count s)) none }

pub returns : goal.returns
returns c = record { holdings = λ i s. record { net = zeros security_count s i }; left = refl }
