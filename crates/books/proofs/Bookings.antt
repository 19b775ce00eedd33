-- How an implementation shows what its bookings do.
use Rattle.std.proofs.Common.{◌≡◌, ℕ, ◌+◌, ◌-◌, true, Some, None, Ok, Err, Option, sym, refl, ap, ◌∙◌, subst, arith}
use Rattle.std.specs.Result.{result_err}
use Rattle.std.proofs.lemmas.Bool.{both_ways, ltb-true}
use Rattle.terms.specs.Questions.{answer, fault_of}
use Rattle.terms.proofs.Answered.{unfaulted}
use Rattle.terms.specs.declared.layer.Layer.{Layer}
use Rattle.terms.specs.declared.refusal.Refusal.{Refusal}
use Rattle.books.specs.declared.booking.Booking.{Booking}
use Rattle.books.specs.Books.{Account, Answer, Books, Meaning, booked, booking_answer, booking_fault_in, booking_refusal, nets_of}
use Rattle.books.proofs.Accounts.{booked_net, same_account, shifted}
use Rattle.books.proofs.Questions.{Accepted, all_yes}

-- an answer is told by its fault
answered : (layer : Layer) (place : ℕ) (o : Option Refusal) (r : Answer) → result_err r ≡ fault_of layer place o → r ≡ answer layer place tt o
answered layer place None (Ok t) e = refl
answered layer place None (Err f) e = let z : ◌≡◌ {A = ℕ} 0 1 = cc in absurd (omega arith)
answered layer place (Some refusal) (Ok t) e = let z : ◌≡◌ {A = ℕ} 0 1 = cc in absurd (omega arith)
answered layer place (Some refusal) (Err f) e = cc

-- an accepted booking had every question answered yes
pub was_accepted : (layer : Layer) (a : Account) (b : Booking) → None ≡ booking_fault_in layer a b → Accepted a b
was_accepted layer a b e = all_yes a b (unfaulted layer b.security (booking_refusal a b) (sym e))

module _ {B : Type 0} (book : Meaning B) (before : B) (b : Booking) where
  pub accepts : (after : B) → None ≡ booking_fault_in book.layer (book.account before) b → ((s : ℕ) → nets_of (book.account after) s ≡ shifted (nets_of (book.account before)) b.security b.quantity s) → (book.account after).left + 1 ≡ (book.account before).left → book.posts before b after → Books book before b (Ok tt) after
  accepts after e m n p =
      let left : (book.account after).left ≡ (book.account before).left - 1 = omega (arith, n) in
      record {
        step = record {
          decided = e;
          refused = λ no_Ok. absurd (both_ways true no_Ok refl);
          moved = λ _. same_account (book.account after) (booked (book.account before) b) (λ s. m s ∙ sym (booked_net (book.account before) b s)) left;
        };
        posted = λ _. p;
      }

  -- the same, of a result that turns out to be no refusal
  pub accepts_so : (r : Answer) (after : B) → r ≡ Ok tt → None ≡ booking_fault_in book.layer (book.account before) b → ((s : ℕ) → nets_of (book.account after) s ≡ shifted (nets_of (book.account before)) b.security b.quantity s) → (book.account after).left + 1 ≡ (book.account before).left → book.posts before b after → Books book before b r after
  accepts_so r after ok e m n p = subst (λ a. Books book before b a after) (sym ok) (accepts after e m n p)

  -- what the call answers
  pub booking_answered : (r : Answer) (after : B) → Books book before b r after → r ≡ booking_answer book.layer (book.account before) b
  booking_answered r after h = answered book.layer b.security (booking_refusal (book.account before) b) r h.step.decided

  -- an accepted booking uses one up
  pub spent : (after : B) → Books book before b (Ok tt) after → (book.account after).left + 1 ≡ (book.account before).left
  spent after h =
      omega (arith, ap (λ a. a.left) (h.step.moved refl), ltb-true 0 (book.account before).left (was_accepted book.layer (book.account before) b h.step.decided).free)
