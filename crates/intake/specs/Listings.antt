-- A text as it is put together: the records of its rows, and then those of its bookings. Assumes nothing.
use Rattle.std.specs.Prelude.{◌≡◌, ℕ, ◌-◌, cond, List, [], ◌∷◌, ◌++◌, map, length, ℤ, Some, None, Option, ◌==◌}
use Rattle.std.specs.List.{flat_map}
use Rattle.terms.specs.Questions.{or_else}
use Rattle.terms.specs.declared.refusal.Refusal.{Refusal}
use Rattle.terms.specs.Limits.{booking_limit}
use Rattle.terms.specs.Choices.{signed}
use Rattle.frames.specs.Frames.{line_of}
use Rattle.frames.specs.Kinds.{class_kind, security_kind, pair_kind, booking_kind}
use Rattle.frames.specs.Classes.{class_figures}
use Rattle.frames.specs.Securities.{security_figures}
use Rattle.frames.specs.Pairs.{pair_figures}
use Rattle.frames.specs.Bookings.{booking_figures}
use Rattle.frames.specs.declared.kinds.booking.BookingRecord.{BookingRecord}
use Rattle.frames.specs.declared.kinds.class.ClassRecord.{ClassRecord}
use Rattle.frames.specs.declared.kinds.pair.PairRecord.{PairRecord}
use Rattle.frames.specs.declared.kinds.security.SecurityRecord.{SecurityRecord}
use Rattle.rules.specs.declared.rows.ClassRow.{ClassRow}
use Rattle.rules.specs.declared.rows.SecurityRow.{SecurityRow}
use Rattle.rules.specs.declared.rows.PairRow.{PairRow}
use Rattle.rules.specs.Rows.{Rows}
use Rattle.sheets.specs.Drafts.{class_refusal, security_refusal, pair_refusal}
use Rattle.books.specs.declared.booking.Booking.{Booking}
use Rattle.books.specs.Books.{Account, account_of, booking_refusal}
use Rattle.books.specs.Totals.{total}

-- the record of a row
pub data RowRecord : Type 0 where
  class_record : ClassRecord → RowRecord
  security_record : SecurityRecord → RowRecord
  pair_record : PairRecord → RowRecord

-- ---- the text

abbrev pub row_frame : RowRecord → List ℕ
row_frame (class_record r) = line_of class_kind (class_figures r)
row_frame (security_record r) = line_of security_kind (security_figures r)
row_frame (pair_record r) = line_of pair_kind (pair_figures r)

abbrev pub booking_frame : BookingRecord → List ℕ
booking_frame b = line_of booking_kind (booking_figures b)

-- the frames of these records, rows before bookings
abbrev pub frames_of : List RowRecord → List BookingRecord → List (List ℕ)
frames_of items bookings = map row_frame items ++ map booking_frame bookings

-- ---- the rows and the nets

abbrev pub class_of : ClassRecord → ClassRow
class_of r = record { kind = r.kind; y = r.y; x = r.x; dep = r.dep }

abbrev pub security_of : SecurityRecord → SecurityRow
security_of r = record { class = r.class; price = r.price; rate = r.rate; duration = r.duration }

abbrev pub pair_of : PairRecord → PairRow
pair_of r = record { first = r.first; second = r.second; crt = r.crt }

abbrev pub booking_of : BookingRecord → Booking
booking_of b = record { security = b.security; quantity = signed b.side b.quantity }

-- what a record lists for a class, for a security, and as a pair
abbrev pub for_class : ℕ → RowRecord → Option ClassRow
for_class c (class_record r) = cond (c == r.class) (Some (class_of r)) None
for_class c (security_record r) = None
for_class c (pair_record r) = None

abbrev pub for_security : ℕ → RowRecord → Option SecurityRow
for_security s (class_record r) = None
for_security s (security_record r) = cond (s == r.security) (Some (security_of r)) None
for_security s (pair_record r) = None

abbrev pub as_pair : RowRecord → List PairRow
as_pair (class_record r) = []
as_pair (security_record r) = []
as_pair (pair_record r) = pair_of r ∷ []

-- what the records list: the first of them that lists something
abbrev pub listed : {A : Type 0} → (RowRecord → Option A) → List RowRecord → Option A
listed own [] = None
listed own (item ∷ items) = or_else (own item) (listed own items)

-- the sheet of these records: each class and each security has the row that is listed for it, and the pairs keep their order
abbrev pub sheet_of : List RowRecord → Rows
sheet_of items = record { classes = λ c. listed (for_class c) items; securities = λ s. listed (for_security s) items; pairs = flat_map as_pair items }

-- the summed nets of these bookings
abbrev pub nets_of : List BookingRecord → ℕ → ℤ
nets_of bookings = total (map booking_of bookings)

-- and the account of a book that took them
abbrev pub account_after : List BookingRecord → Account
account_after bookings = account_of (nets_of bookings) (booking_limit - length bookings)

-- ---- what is accepted

abbrev pub row_refusal : Rows → RowRecord → Option Refusal
row_refusal rows (class_record r) = class_refusal rows r.class (class_of r)
row_refusal rows (security_record r) = security_refusal rows r.security (security_of r)
row_refusal rows (pair_record r) = pair_refusal rows (pair_of r)

-- why a booking is refused after these bookings, if it is
abbrev pub refusal_after : List BookingRecord → BookingRecord → Option Refusal
refusal_after bookings b = booking_refusal (account_after bookings) (booking_of b)

-- a row is accepted at the sheet of the rows before it, and a booking at the nets of the bookings before it
abbrev pub AcceptsRow : List RowRecord → RowRecord → Type 0
AcceptsRow items item = row_refusal (sheet_of items) item ≡ None

abbrev pub AcceptsBooking : List BookingRecord → BookingRecord → Type 0
AcceptsBooking bookings b = refusal_after bookings b ≡ None

-- so it is with each element and those before it
abbrev pub Each : {A : Type 0} → (List A → A → Type 0) → List A → Type 0
Each {A} Accepts xs = (before after : List A) (x : A) → xs ≡ before ++ x ∷ after → Accepts before x

abbrev pub RowsAccepted : List RowRecord → Type 0
RowsAccepted = Each AcceptsRow

abbrev pub BookingsAccepted : List BookingRecord → Type 0
BookingsAccepted = Each AcceptsBooking
