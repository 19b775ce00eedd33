use Rattle.std.proofs.Common.{refl, rules}
use Rattle.books.specs.Books.{Books}
use Rattle.entries.specs.Desks.{entered}
use Rattle.entries.proofs.Moving.{booking_posts, table_meaning}
use Rattle.entries.proofs.fields.book.Goals as goal

pub returns : goal.returns
returns c =
    let books : Books table_meaning c.args.table.now (entered c.from.result c.signed.result) c.book.result c.book.new.self = search rules in
    booking_posts _ _ _ _ c.in_ok-item.item (c.in_ok-item.ensures.only _ refl) _ _ c.from.ensures c.signed.ensures books
