use Rattle.std.proofs.Common.{◌≡◌, false, not, Ok, is_ok, sym, ap, ◌∙◌, subst, w64, SFits, to_z, of_z, rules}
use Rattle.std.proofs.lemmas.Int.{to_z-of_z}
use Rattle.terms.specs.Limits.{net_limit}
use Rattle.books.specs.Books.{Answer, Books, Holding, Within, booking_answer, booking_of, is_nothing}
use Rattle.books.proofs.Bookings.{booking_answered}
use Rattle.trials.specs.Trials.{laid, trial_account}
use Rattle.trials.proofs.Counts.{zero_bits, nonzero_bits}
use Rattle.trials.proofs.Posting.{posting_accepted, posting_none, posting_taken}
use Rattle.trials.proofs.trial.Trial.post_one.Given as given
use Rattle.trials.proofs.trial.Trial.post_one.Goals as goal
use Rattle.trials.proofs.trial.Trial.post_one.Goals.{After-book}

trial : (g : given.Over) (c : After-book g) → Holding
trial g c = laid g.B.Book.meaning c.args.self.now c.args.security

-- what is booked is the trial quantity
booked_is : (g : given.Over) (c : After-book g) → to_z w64 (of_z w64 c.args.quantity) ≡ (trial g c).net
unfolding trial
booked_is g c =
    let f : SFits w64 c.args.quantity = search rules in
    to_z-of_z w64 c.args.quantity f ∙ c.requires.quantity

booking_is : (g : given.Over) (c : After-book g) → booking_of c.args.security (record { net = to_z w64 (of_z w64 c.args.quantity) }) ≡ booking_of c.args.security (trial g c)
booking_is g c = ap (λ z. booking_of c.args.security (record { net = z })) (booked_is g c)

moving : (g : given.Over) (c : After-book g) → is_nothing (trial g c) ≡ false
unfolding trial
moving g c = ap (λ z. is_nothing (record { net = z })) (sym c.requires.quantity) ∙ nonzero_bits c.args.quantity c.if-quantity-ne0.true

-- and it is accepted
taken : (g : given.Over) (c : After-book g) → ◌≡◌ {A = Answer} c.book.result (Ok tt)
unfolding trial
taken g c =
    let m = g.B.Book.meaning in
    let b = c.args.self.now.below in
    let i = c.args.security in
    let moving = moving g c in
    let below = subst (λ n. Within net_limit (n i)) (g.met.B.Book.netted b) (g.B.Positions.limited b i) in
    booking_answered m b (record { security = i; quantity = to_z w64 (of_z w64 c.args.quantity) }) c.book.result c.book.new.self c.book.ensures
    ∙ ap (booking_answer m.layer (m.account b)) (booking_is g c)
    ∙ posting_accepted m (trial_account c.args.self.now).holdings b i c.requires.known (c.requires.room (ap not moving)) moving (c.args.self.now.above.limited i) below

pub unwrap-requires : goal.unwrap-requires
unwrap-requires g c = ap is_ok (taken g (goal.at.unwrap-requires g c).After-book)

pub returns-then-quantity-ne0-clause-taken : goal.returns-then-quantity-ne0-clause-taken
unfolding trial
returns-then-quantity-ne0-clause-taken g c =
    let m = g.B.Book.meaning in
    let b = c.args.self.now.below in
    let i = c.args.security in
    let d = (goal.at.returns-then-quantity-ne0-clause-taken g c).After-book in
    let booked = subst (λ k. Books m b k c.book.result c.book.new.self) (booking_is g d) c.book.ensures in
    posting_taken m b c.book.new.self (laid m c.args.self.now) i (moving g d)
    (subst (λ (r : Answer). Books m b (booking_of i (trial g d)) r c.book.new.self) (taken g d) booked)

pub returns-else-quantity-ne0-clause-taken : goal.returns-else-quantity-ne0-clause-taken
returns-else-quantity-ne0-clause-taken g c =
    let m = g.B.Book.meaning in
    let f : SFits w64 c.args.quantity = search rules in
    posting_none m c.args.self.now.below (laid m c.args.self.now) c.args.security
    (ap (λ z. is_nothing (record { net = z })) (sym c.requires.quantity) ∙ zero_bits c.args.quantity f c.if-quantity-ne0.false)
