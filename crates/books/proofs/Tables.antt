-- A table of nets that took a booking.
use Rattle.std.proofs.Common.{◌≡◌, ◌-◌, get_or, set, pos, ◌+ℤ◌, None, Ok, ap, ◌∙◌, arith}
use Rattle.std.proofs.lemmas.Bool.{ltb-true}
use Rattle.terms.specs.declared.layer.Layer.{Layer}
use Rattle.books.specs.declared.booking.Booking.{Booking}
use Rattle.books.specs.Books.{Books, booking_fault_in}
use Rattle.books.specs.Ledgers.{ledger_account, ledger_meaning, ledger_nets}
use Rattle.books.specs.declared.ledger.Ledger.{Ledger}
use Rattle.books.proofs.Bookings.{accepts, was_accepted}
use Rattle.books.proofs.Limits.{set_shifts}

pub ledger_books : (layer : Layer) (before after : Ledger) (b : Booking)
    → None ≡ booking_fault_in layer (ledger_account before) b
    → after.nets ≡ set before.nets b.security (ledger_nets before b.security +ℤ b.quantity)
    → after.left ≡ before.left - 1
    → Books (ledger_meaning layer) before b (Ok tt) after
ledger_books layer before after b none moved spent =
    let yes = was_accepted layer (ledger_account before) b none in
    accepts (ledger_meaning layer) before b after none
    (λ s. ap (λ xs. get_or xs s (pos 0)) moved ∙ set_shifts before.nets b.security b.quantity (omega (arith, before.long, ltb-true _ _ yes.known)) s)
    (omega (arith, spent, ltb-true 0 before.left yes.free)) tt
