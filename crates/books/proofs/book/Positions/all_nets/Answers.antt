use Rattle.std.proofs.Common.{pos, rules}
use Rattle.lists.proofs.Filled.{filled_at}
use Rattle.terms.specs.Limits.{security_count}
use Rattle.books.proofs.book.Positions.all_nets.Goals as goal

pub returns : goal.returns
returns g c = λ s l. filled_at _ _ (g.Self.Positions.nets c.args.self.now) security_count (λ i y q b h. search rules) _ c.from_fn.ensures.items s (pos 0) l
