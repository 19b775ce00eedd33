-- The questions put to a booking, each answered.
use Rattle.std.proofs.Common.{◌≡◌, Bool, true, ltb, ◌+ℤ◌, None, Option, ap, ◌∙◌}
use Rattle.terms.specs.Limits.{net_limit}
use Rattle.terms.specs.Questions.{ask}
use Rattle.terms.proofs.Answered.{asked}
use Rattle.terms.specs.declared.refusal.Refusal.{Refusal}
use Rattle.books.specs.declared.booking.Booking.{Booking}
use Rattle.books.specs.Books.{Account, listed, bookable, within, booking_refusal, nets_of}

pub ask_yes : (b : Bool) (refusal : Refusal) (next : Option Refusal) → b ≡ true → ask b refusal next ≡ next
ask_yes b refusal next e = ap (λ x. ask x refusal next) e

-- every question is answered yes
pub record Accepted (a : Account) (b : Booking) : Type 0 where
  pub known : listed b.security ≡ true
  pub lawful : bookable b.quantity ≡ true
  pub free : ltb 0 a.left ≡ true
  pub fits : within net_limit (nets_of a b.security +ℤ b.quantity) ≡ true

module _ (a : Account) (b : Booking) where
  pub accepted : Accepted a b → booking_refusal a b ≡ None
  accepted h =
      ask_yes _ _ _ h.known ∙ ask_yes _ _ _ h.lawful ∙ ask_yes _ _ _ h.free ∙ ask_yes _ _ _ h.fits

  pub all_yes : booking_refusal a b ≡ None → Accepted a b
  all_yes e =
      let first = asked _ _ _ e in
      let second = asked _ _ _ first.1 in
      let third = asked _ _ _ second.1 in
      let fourth = asked _ _ _ third.1 in
      record { known = first.0; lawful = second.0; free = third.0; fits = fourth.0 }
