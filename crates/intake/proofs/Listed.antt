-- One record more: the sheet and the nets of the records. Assumes nothing.
use Rattle.std.proofs.Common.{◌≡◌, ℕ, ◌-◌, true, false, cond, eqb, List, [], ◌∷◌, ◌++◌, length, map, Some, None, Option, sym, refl, ap, ◌∙◌, subst, ⊎_elim, arith, lit≤}
use Rattle.std.proofs.lemmas.List.{append-nil, flat_map_more, length_push, map_push}
use Rattle.std.proofs.lemmas.Bool.{cases_Bool, eq-eqb, eqb-true}
use Rattle.std.proofs.lemmas.Map.{update_same, update_apart}
use Rattle.std.specs.List.{flat_map}
use Rattle.std.specs.Map.{update}
use Rattle.frames.specs.declared.kinds.booking.BookingRecord.{BookingRecord}
use Rattle.rules.specs.Rows.{Rows, Lawful}
use Rattle.sheets.proofs.Asked.{class_asked, security_asked}
use Rattle.sheets.proofs.Growth.{class_keeps, security_keeps, pair_keeps}
use Rattle.books.specs.Books.{booked}
use Rattle.books.specs.Totals.{total}
use Rattle.books.proofs.Accounts.{booked_net, same_account}
use Rattle.books.proofs.Sums.{total_books}
use Rattle.entries.specs.Desks.{with_row}
use Rattle.terms.specs.Questions.{or_else}
use Rattle.terms.specs.Limits.{booking_limit}
use Rattle.entries.specs.Entries.{Row, of_class, of_security, of_pair}
use Rattle.intake.specs.Listings.{RowRecord, class_record, security_record, pair_record, class_of, security_of, pair_of, booking_of, for_class, for_security, as_pair, listed, sheet_of, account_after, row_refusal}

-- the row of a record
abbrev pub row_of : RowRecord → Row
row_of (class_record r) = of_class r.class (class_of r)
row_of (security_record r) = of_security r.security (security_of r)
row_of (pair_record r) = of_pair (pair_of r)

or_else_none : {A : Type 0} (o : Option A) → or_else o None ≡ o
or_else_none (Some a) = refl
or_else_none None = refl

or_else_assoc : {A : Type 0} (a b c : Option A) → or_else a (or_else b c) ≡ or_else (or_else a b) c
or_else_assoc (Some x) b c = refl
or_else_assoc None b c = refl

listed_push : {A : Type 0} (own : RowRecord → Option A) (items : List RowRecord) (item : RowRecord) → listed own (items ++ item ∷ []) ≡ or_else (listed own items) (own item)
listed_push own [] item = or_else_none (own item)
listed_push own (first ∷ items) item = ap (or_else (own first)) (listed_push own items item) ∙ or_else_assoc (own first) (listed own items) (own item)

-- a record that lists nothing
listed_same : {A : Type 0} (own : RowRecord → Option A) (items : List RowRecord) (item : RowRecord) → own item ≡ None → listed own items ≡ listed own (items ++ item ∷ [])
listed_same own items item none = sym (listed_push own items item ∙ ap (or_else (listed own items)) none ∙ or_else_none (listed own items))

-- a row for a number that had none
put_new : {A : Type 0} (f : ℕ → Option A) (at : ℕ) (row : A) → f at ≡ None → (n : ℕ) → update eqb f at (Some row) n ≡ or_else (f n) (cond (eqb n at) (Some row) None)
put_new f at row new n = ⊎_elim
    (λ yes'. update_same eqb f at (Some row) n (eq-eqb at n (sym (eqb-true n at yes'))) ∙ sym (ap (λ o. or_else o (cond (eqb n at) (Some row) None)) (ap f (eqb-true n at yes') ∙ new) ∙ ap (λ b. cond b (Some row) None) yes'))
    (λ no'. update_apart f at (Some row) n (λ e. let both : true ≡ false = sym (eq-eqb n at e) ∙ no' in absurd cc) ∙ sym (ap (λ b. or_else (f n) (cond b (Some row) None)) no' ∙ or_else_none (f n)))
    (cases_Bool (eqb n at))

pairs_push : (items : List RowRecord) (item : RowRecord) → flat_map as_pair items ++ as_pair item ≡ flat_map as_pair (items ++ item ∷ [])
pairs_push items item = flat_map_more as_pair [] items item

-- the sheet with one row more
pub sheet_push : (items : List RowRecord) (item : RowRecord) → row_refusal (sheet_of items) item ≡ None → with_row (sheet_of items) (row_of item) ≡ sheet_of (items ++ item ∷ [])
sheet_push items (class_record r) accepted =
    let new = (class_asked (sheet_of items) r.class (class_of r) accepted).new in
    λ i. record {
      classes = λ c. (put_new (λ n. listed (for_class n) items) r.class (class_of r) new c ∙ sym (listed_push (for_class c) items (class_record r))) i;
      securities = λ s. listed_same (for_security s) items (class_record r) refl i;
      pairs = (sym (append-nil (flat_map as_pair items)) ∙ pairs_push items (class_record r)) i;
    }
sheet_push items (security_record r) accepted =
    let new = (security_asked (sheet_of items) r.security (security_of r) accepted).new in
    λ i. record {
      classes = λ c. listed_same (for_class c) items (security_record r) refl i;
      securities = λ s. (put_new (λ n. listed (for_security n) items) r.security (security_of r) new s ∙ sym (listed_push (for_security s) items (security_record r))) i;
      pairs = (sym (append-nil (flat_map as_pair items)) ∙ pairs_push items (security_record r)) i;
    }
sheet_push items (pair_record r) accepted =
    λ i. record {
      classes = λ c. listed_same (for_class c) items (pair_record r) refl i;
      securities = λ s. listed_same (for_security s) items (pair_record r) refl i;
      pairs = pairs_push items (pair_record r) i;
    }

-- is lawful where the sheet was
kept : (rows : Rows) → Lawful rows → (item : RowRecord) → row_refusal rows item ≡ None → Lawful (with_row rows (row_of item))
kept rows l (class_record r) accepted = class_keeps rows l r.class (class_of r) accepted
kept rows l (security_record r) accepted = security_keeps rows l r.security (security_of r) accepted
kept rows l (pair_record r) accepted = pair_keeps rows l (pair_of r) accepted

pub lawful_push : (items : List RowRecord) → Lawful (sheet_of items) → (item : RowRecord) → row_refusal (sheet_of items) item ≡ None → Lawful (sheet_of (items ++ item ∷ []))
lawful_push items l item accepted = subst Lawful (sheet_push items item accepted) (kept (sheet_of items) l item accepted)

pub lawful_none : Lawful (sheet_of [])
lawful_none = record { of_classes = λ c. tt; of_securities = λ s. tt; of_pairs = tt; few_pairs = lit≤ tt }

-- the account with one booking more
pub account_push : (bookings : List BookingRecord) (b : BookingRecord) → booked (account_after bookings) (booking_of b) ≡ account_after (bookings ++ b ∷ [])
account_push bookings b =
    let before = account_after bookings in
    let left : booking_limit - length bookings - 1 ≡ booking_limit - length (bookings ++ b ∷ []) = omega (arith, length_push bookings b) in
    same_account (booked before (booking_of b)) (account_after (bookings ++ b ∷ []))
    (λ s. booked_net before (booking_of b) s ∙ sym (total_books (map booking_of bookings) (booking_of b) s) ∙ ap (λ bs. total bs s) (sym (map_push booking_of bookings b))) left
