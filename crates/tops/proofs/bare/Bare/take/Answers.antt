use Rattle.std.proofs.Common.{ap}
use Rattle.books.specs.Books.{Books}
use Rattle.tops.proofs.Calls.{bare_booking}
use Rattle.tops.proofs.bare.Bare.take.Goals as goal

pub returns : goal.returns
returns g c =
    let book = g.B.Book.meaning in
    let before = c.args.self.now.book in
    let after = c.book.new.self.book in
    let h = c.book.ensures in
    let own : Books book before c.args.booking c.book.result after = record {
      step = record { decided = h.step.decided; refused = λ e. ap (λ b. b.book) (h.step.refused e); moved = h.step.moved };
      posted = h.posted;
    } in
    let law = bare_booking book before after c.args.booking c.book.result own in
    record { answer = law.0; tally = law.1; posted = law.2; refused = h.step.refused }
