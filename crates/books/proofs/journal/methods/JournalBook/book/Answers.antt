use Rattle.std.proofs.Common.{◌≡◌, ◌<◌, ◌+ℤ◌, Ok, sym, ap, ◌∙◌, subst, arith, w64, SFits, rules}
use Rattle.std.specs.Result.{result_err}
use Rattle.std.proofs.lemmas.Int.{to_z-of_z}
use Rattle.std.proofs.lemmas.Bool.{ltb-true}
use Rattle.lists.specs.Lists.{items, Appended}
use Rattle.lists.proofs.Memory.{appended, append_ok}
use Rattle.terms.specs.Limits.{net_limit, security_count}
use Rattle.terms.specs.declared.layer.Layer.TheVariants as layers
use Rattle.books.specs.Books.{Within, account_of, booking_fault_in}
use Rattle.books.specs.Journals.{journal_account, journal_left, journal_limited, journal_meaning}
use Rattle.books.specs.Totals.{total}
use Rattle.books.proofs.Bookings.{was_accepted, accepts_so}
use Rattle.books.proofs.Limits.{within_yes}
use Rattle.books.proofs.Questions.{Accepted}
use Rattle.books.proofs.Sums.{nets_after, count_after, left_after, limited_after, known_after}
use Rattle.books.proofs.journal.methods.JournalBook.book.Goals as goal
use Rattle.books.proofs.journal.methods.JournalBook.book.Goals.{After-judge, After-append}

pub judge-requires : goal.judge-requires
judge-requires c =
    let f : SFits w64 c.sum-net.result = search rules in
    subst (Within net_limit) (sym (to_z-of_z w64 c.sum-net.result f ∙ c.sum-net.ensures)) (journal_limited c.args.self.now c.args.booking.security)

judged : (c : After-judge) → result_err c.judge.result ≡ booking_fault_in layers.Book (journal_account c.args.self.now) c.args.booking
judged c =
    let f : SFits w64 c.sum-net.result = search rules in
    let n = to_z-of_z w64 c.sum-net.result f ∙ c.sum-net.ensures in
    let l = c.free_places-left.ensures in
    c.judge.ensures ∙ (λ i. booking_fault_in layers.Book (account_of (λ _. n i) (l i)) c.args.booking)

yes : (c : After-judge) → c.judge.result ≡ Ok tt → Accepted (journal_account c.args.self.now) c.args.booking
yes c e = was_accepted layers.Book (journal_account c.args.self.now) c.args.booking (sym (ap result_err e) ∙ judged c)

-- a place is free
free_place : (c : After-judge) → c.judge.result ≡ Ok tt → 0 < journal_left c.args.self.now
free_place c e = ltb-true 0 (journal_left c.args.self.now) (yes c e).free

-- so that the list takes the booking
listed : (c : After-append) → Appended c.args.booking c.args.self.now.list c.append.new.self
listed c =
    let d = (goal.at.invariant_of-self c).After-judge in
    let free = free_place d c.in_ok-judge.was in
    appended _ _ _ _ c.append.ensures.cases (omega arith)

pub invariant_of-self : goal.invariant_of-self
invariant_of-self c =
    let d = (goal.at.invariant_of-self c).After-judge in
    let e = c.in_ok-judge.was in
    let j = c.args.self.now in
    let b = c.args.booking in
    let after = c.append.new.self in
    let h = listed c in record {
      few = omega (arith, count_after b j.list after h, free_place d e);
      limited = limited_after b j.list after h j.limited (within_yes net_limit (total (items j.list) b.security +ℤ b.quantity) (yes d e).fits);
      known = known_after b j.list after h (ltb-true b.security security_count (yes d e).known) j.known;
    }

pub returns : goal.returns
returns c =
    let d = (goal.at.returns c).After-judge in
    let e = c.in_ok-judge.was in
    let j = c.args.self.now in
    let b = c.args.booking in
    let after = c.append.new.self in
    let h = listed (goal.at.returns c).After-append in
    let free = free_place d e in
    accepts_so journal_meaning j b c.append.result _ (append_ok _ _ _ _ c.append.ensures.cases (omega arith)) (sym (ap result_err e) ∙ judged d)
    (nets_after b j.list after h) (left_after b j.list after h free) (record { lender = c.append.ensures.lender; appended = h })

pub returns-in_err-judge : goal.returns-in_err-judge
returns-in_err-judge c =
    let j = judged (goal.at.returns-in_err-judge c).After-judge in
    search rules
