-- What a book that is lent took, and what a journal took.
use Rattle.std.proofs.Common.{◌≡◌, List, [], ◌∷◌, Ok, refl, ap, ◌∙◌}
use Rattle.std.specs.Borrow.{MutBor}
use Rattle.lists.specs.Lists.{Extended}
use Rattle.lists.proofs.Memory.{extended_none, extended_more}
use Rattle.books.specs.Books.{Books, Meaning, lent_meaning}
use Rattle.books.specs.Journals.{journal_meaning}
use Rattle.books.specs.declared.booking.Booking.{Booking}
use Rattle.books.specs.declared.journal.Journal.{Journal}
use Rattle.trials.specs.Trials.{Taken}

module _ {B : Type 0} (book : Meaning B) where
  -- the lender's book took what the lent one took
  pub taken_lent : (before : MutBor B) (bs : List Booking) (after : MutBor B) → Taken (lent_meaning book) before bs after → (after.ghost_name ≡ before.ghost_name) × Taken book before.now bs after.now
  taken_lent before [] after t = (ap (λ r. r.ghost_name) t, ap (λ r. r.now) t)
  taken_lent before (b ∷ bs) after t =
      let next = t.0 in
      let h = t.1.0 in
      let rest = taken_lent next bs after t.1.1 in
      let books : Books book before.now b (Ok tt) next.now = record {
        step = record { decided = h.step.decided; refused = λ e. ap (λ r. r.now) (h.step.refused e); moved = h.step.moved };
        posted = λ e. (h.posted e).1;
      } in
      (rest.0 ∙ (h.posted refl).0, (next.now, (books, rest.1)))

-- a journal lists the bookings that it took behind those that it listed before
pub taken_listed : (before : Journal) (bs : List Booking) (after : Journal) → Taken journal_meaning before bs after → Extended bs before.list after.list
taken_listed before [] after t = extended_none before.list after.list (ap (λ j. j.list) t)
taken_listed before (b ∷ bs) after t =
    let listed = t.1.0.posted refl in
    extended_more b bs before.list t.0.list after.list listed.lender listed.appended (taken_listed t.0 bs after t.1.1)
