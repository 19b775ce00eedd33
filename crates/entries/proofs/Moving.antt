-- What the calls of a draft and of a book do, in the words of an intake. Assumes nothing.
use Rattle.std.proofs.Common.{◌≡◌, ℕ, List, get_or, ℤ, Result, sym, ap, ◌∙◌, subst}
use Rattle.terms.specs.declared.fault.Fault.{Fault}
use Rattle.terms.specs.declared.layer.Layer.TheVariants.{Book}
use Rattle.terms.specs.Choices.{signed}
use Rattle.frames.specs.Fields.{numbers_of, text_of}
use Rattle.frames.specs.Kinds.{class_kind, security_kind, pair_kind, booking_kind}
use Rattle.frames.specs.Classes.{class_figures}
use Rattle.frames.specs.Securities.{security_figures}
use Rattle.frames.specs.Pairs.{pair_figures}
use Rattle.frames.specs.Bookings.{booking_figures}
use Rattle.frames.specs.declared.kinds.booking.BookingRecord.{BookingRecord}
use Rattle.frames.specs.declared.kinds.class.ClassRecord.{ClassRecord}
use Rattle.frames.specs.declared.kinds.pair.PairRecord.{PairRecord}
use Rattle.frames.specs.declared.kinds.security.SecurityRecord.{SecurityRecord}
use Rattle.books.specs.declared.table.NetTable.{NetTable}
use Rattle.books.specs.Books.{Books, Meaning, no_more}
use Rattle.sheets.specs.Drafts.{TakesClass, TakesSecurity, TakesPair}
use Rattle.sheets.specs.Sheets.{draft_rows}
use Rattle.sheets.specs.declared.draft.Draft.{Draft}
use Rattle.entries.specs.Entries.{of_class, of_security, of_pair, listed_class, listed_security, listed_pair, quantity_of}
use Rattle.entries.proofs.Bringing.{class_numbers, security_numbers, pair_numbers, booking_numbers, class_listed, booking_quantity}
use Rattle.entries.specs.Desks.{entered}
use Rattle.entries.specs.Intakes.{Adds, Posts, table_account}

-- what a net table means
abbrev pub table_meaning : Meaning NetTable
table_meaning = record { account = table_account; posts = no_more; layer = Book }

pub booking_moves : (before : NetTable) (security : ℕ) (quantity : ℤ) (result : Result (Unit {0}) Fault) (after : NetTable) → Books table_meaning before (entered security quantity) result after
    → Posts security quantity before result after
booking_moves before security quantity result after books = books.step

-- ---- a call with what the record of some fields says

module _ (fields : List ℕ) (before : Draft) (result : Result (Unit {0}) Fault) (after : Draft) where
  pub class_adds : (x : ClassRecord) → fields ≡ text_of class_kind.widths (class_figures x) → (class : ℕ) → class ≡ x.class
      → TakesClass draft_rows before class (record { kind = x.kind; y = x.y; x = x.x; dep = x.dep }) result after
      → Adds (listed_class (numbers_of class_kind.widths fields)) before result after
  class_adds x is class same takes =
      subst (λ row. Adds row before result after)
      (ap (λ c. of_class c (record { kind = x.kind; y = x.y; x = x.x; dep = x.dep })) same ∙ class_listed x ∙ ap listed_class (sym (class_numbers fields x is)))
      takes

  pub security_adds : (x : SecurityRecord) → fields ≡ text_of security_kind.widths (security_figures x) → (class security : ℕ) → class ≡ x.class → security ≡ x.security
      → TakesSecurity draft_rows before security (record { class = class; price = x.price; rate = x.rate; duration = x.duration }) result after
      → Adds (listed_security (numbers_of security_kind.widths fields)) before result after
  security_adds x is class security same_Class same takes =
      subst (λ row. Adds row before result after)
      (ap (λ s. of_security s (record { class = class; price = x.price; rate = x.rate; duration = x.duration })) same
      ∙ ap (λ c. of_security x.security (record { class = c; price = x.price; rate = x.rate; duration = x.duration })) same_Class
      ∙ ap listed_security (sym (security_numbers fields x is)))
      takes

  pub pair_adds : (x : PairRecord) → fields ≡ text_of pair_kind.widths (pair_figures x) → (first second : ℕ) → first ≡ x.first → second ≡ x.second
      → TakesPair draft_rows before (record { first = first; second = second; crt = x.crt }) result after
      → Adds (listed_pair (numbers_of pair_kind.widths fields)) before result after
  pair_adds x is first second same_first same_second takes =
      subst (λ row. Adds row before result after)
      (ap (λ c. of_pair (record { first = c; second = second; crt = x.crt })) same_first
      ∙ ap (λ c. of_pair (record { first = x.first; second = c; crt = x.crt })) same_second
      ∙ ap listed_pair (sym (pair_numbers fields x is)))
      takes

pub booking_posts : (fields : List ℕ) (before : NetTable) (result : Result (Unit {0}) Fault) (after : NetTable) (x : BookingRecord) → fields ≡ text_of booking_kind.widths (booking_figures x)
    → (security : ℕ) (quantity : ℤ) → security ≡ x.security → quantity ≡ signed x.side x.quantity
    → Books table_meaning before (entered security quantity) result after
    → Posts (get_or (numbers_of booking_kind.widths fields) 0 0) (quantity_of (numbers_of booking_kind.widths fields)) before result after
booking_posts fields before result after x is security quantity same_security same_quantity books =
    subst (λ n. Posts (get_or n 0 0) (quantity_of n) before result after) (sym (booking_numbers fields x is))
    (subst (λ s. Posts s (quantity_of (booking_figures x)) before result after) same_security
    (subst (λ q. Posts security q before result after) (same_quantity ∙ booking_quantity x)
    (booking_moves before security quantity result after books)))
