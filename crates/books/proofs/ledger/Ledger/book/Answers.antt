use Rattle.std.proofs.Common.{rules}
use Rattle.books.proofs.Tables.{ledger_books}
use Rattle.books.proofs.ledger.Ledger.book.Goals as goal

pub returns : goal.returns
returns c = ledger_books c.args.layer c.args.self.now _ c.args.booking (search rules) (search rules) (search rules)
