use Rattle.std.proofs.Common.{◌≡◌, ◌∙◌}
use Rattle.books.specs.Books.{nets_of}
use Rattle.books.specs.Ledgers.{ledger_nets}
use Rattle.books.proofs.ledger.Ledger.copy_of_book.Goals as goal

-- the nets of a book are those of what it holds
pub returns-clause-holdings : goal.returns-clause-holdings
returns-clause-holdings g c =
    let nets : ledger_nets c.copy_of.result ≡ nets_of (g.B.Book.meaning.account c.args.book.now) = c.copy_of.ensures.nets ∙ g.met.B.Book.netted c.args.book.now in
    λ i s. record { net = nets i s }
