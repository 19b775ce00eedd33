use Rattle.std.proofs.Common.{◌≡◌, ◌+◌, ◌<◌, length, get_or, take, ◌+ℤ◌, sym, ap, ◌∙◌, arith, pos}
use borrow.Author.Differences.{ints}
use Rattle.lists.specs.Lists.{items}
use Rattle.books.specs.Totals.{share, total}
use Rattle.books.specs.declared.booking.Booking.{Booking}
use Rattle.books.proofs.Sums.{total_more}
use Rattle.books.proofs.journal.Journal.sum.Goals as goal
use Rattle.books.proofs.journal.Journal.sum.Goals.{After-share_of-sum}

abbrev none : Booking
none = record { security = 0; quantity = pos 0 }

more : (c : After-share_of-sum) → total (take (c.loop-booking.booking-index + 1) (items c.args.self.now.list)) c.args.security ≡ total (take c.loop-booking.booking-index (items c.args.self.now.list)) c.args.security +ℤ c.share_of-sum.result
more c =
    let i = c.loop-booking.booking-index in
    let bs = items c.args.self.now.list in
    let all = c.records-booking-items.ensures in
    let here : i < length bs = omega (arith, ap length all, c.loop-booking-test.true) in
    let added : c.share_of-sum.result ≡ share (get_or bs i none) c.args.security = c.share_of-sum.ensures ∙ ap (λ xs. share (get_or xs i none) c.args.security) all in
    total_more bs i none c.args.security here ∙ ap (λ z. total (take i bs) c.args.security +ℤ z) (sym added)

pub overflow_add-sum : goal.overflow_add-sum
overflow_add-sum c =
    let j = c.args.self.now in
    let i = c.loop-booking.booking-index in
    omega (arith, ints, more c, c.loop-booking.invariant, j.limited i c.args.security, j.limited (i + 1) c.args.security)

pub loop-booking-preserved : goal.loop-booking-preserved
loop-booking-preserved c =
    let j = c.args.self.now in
    let i = c.loop-booking.booking-index in
    omega (arith, ints, more c, c.loop-booking.invariant, j.limited i c.args.security, j.limited (i + 1) c.args.security)
