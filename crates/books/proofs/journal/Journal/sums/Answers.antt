use Rattle.std.proofs.Common.{◌≡◌, ℕ, ◌+◌, ◌<◌, length, get_or, take, pos, ◌+ℤ◌, sym, refl, ap, ◌∙◌, subst, arith}
use Rattle.lists.specs.Lists.{items}
use Rattle.terms.specs.Limits.{net_limit, security_count}
use Rattle.books.specs.Books.{Within}
use Rattle.books.specs.Totals.{share, total}
use Rattle.books.specs.declared.booking.Booking.{Booking}
use Rattle.books.proofs.Limits.{zeros}
use Rattle.books.proofs.Sums.{total_more}
use Rattle.books.proofs.journal.Journal.sums.Goals as goal
use Rattle.books.proofs.journal.Journal.sums.Goals.{In-loop-booking}

abbrev none : Booking
none = record { security = 0; quantity = pos 0 }

pub loop-booking-init : goal.loop-booking-init
loop-booking-init c = (refl, λ s l. zeros security_count s)

-- a sum with the booking of this turn
next : (c : In-loop-booking) (s : ℕ) → s < security_count →
    total (take (c.loop-booking.booking-index + 1) (items c.args.self.now.list)) s ≡ get_or c.loop-booking.nets s (pos 0) +ℤ share (get_or c.records-booking-items.result.now c.loop-booking.booking-index none) s
next c s l =
    let i = c.loop-booking.booking-index in
    let bs = items c.args.self.now.list in
    let all = c.records-booking-items.ensures in
    let here : i < length bs = omega (arith, ap length all, c.loop-booking-test.true) in
    total_more bs i none s here
    ∙ ap (λ z. z +ℤ share (get_or bs i none) s) (sym (c.loop-booking.invariant.1 s l))
    ∙ ap (λ xs. get_or c.loop-booking.nets s (pos 0) +ℤ share (get_or xs i none) s) (sym all)

pub add_to-requires : goal.add_to-requires
add_to-requires c = λ s l. subst (Within net_limit) (next (goal.at.add_to-requires c).In-loop-booking s l) (c.args.self.now.limited (c.loop-booking.booking-index + 1) s)

pub loop-booking-preserved : goal.loop-booking-preserved
loop-booking-preserved c = (omega arith, λ s l. c.add_to.ensures s l ∙ sym (next (goal.at.loop-booking-preserved c).In-loop-booking s l))
