-- What a text is, in records: the rows and bookings that are accepted, and what comes then. Assumes nothing.
use Rattle.std.specs.Prelude.{◌≡◌, ℕ, ◌<◌, ◌≤◌, List, [], ◌∷◌, ◌++◌, length, Some, None, Option}
use Rattle.std.specs.List.{AllByRecursion}
use Rattle.terms.specs.Refusals.{refused_at}
use Rattle.terms.specs.declared.fault.Fault.{Fault}
use Rattle.terms.specs.declared.layer.Layer.TheVariants.{Book}
use Rattle.terms.specs.declared.refusal.Refusal.{Refusal}
use Rattle.terms.specs.Limits.{text_limit}
use Rattle.terms.specs.Questions.{fault_of}
use Rattle.frames.specs.Frames.{frame_fault, line_of, line_refusal}
use Rattle.frames.specs.Kinds.{all_kinds, deposit_kind, total_kind, fault_kind}
use Rattle.frames.specs.Deposits.{deposit_figures}
use Rattle.frames.specs.Totals.{total_figures}
use Rattle.frames.specs.Faults.{fault_figures}
use Rattle.frames.specs.declared.kinds.booking.BookingRecord.{BookingRecord}
use Rattle.frames.specs.declared.kinds.deposit.DepositRecord.{DepositRecord}
use Rattle.frames.specs.declared.kinds.fault.FaultRecord.{FaultRecord}
use Rattle.frames.specs.declared.kinds.total.TotalRecord.{TotalRecord}
use Rattle.lines.specs.Lines.{Unbroken, closed, fed}
use Rattle.positions.specs.Questions.{portfolio_fault}
use Rattle.entries.specs.Desks.{out_of_order}
use Rattle.intake.specs.Listings.{RowRecord, class_record, security_record, pair_record, row_frame, booking_frame, frames_of, sheet_of, nets_of, row_refusal, refusal_after, RowsAccepted, BookingsAccepted}

-- ---- a line

-- what a line is: the frame of one record, or no frame, by the first question that it answers no
pub data LineRead : Type 0 where
  of_row : RowRecord → LineRead
  of_booking : BookingRecord → LineRead
  of_deposit : DepositRecord → LineRead
  of_total : TotalRecord → LineRead
  of_fault : FaultRecord → LineRead
  no_frame : Refusal → LineRead

abbrev pub IsLine : LineRead → List ℕ → Type 0
IsLine (of_row item) line = line ≡ row_frame item
IsLine (of_booking b) line = line ≡ booking_frame b
IsLine (of_deposit r) line = line ≡ line_of deposit_kind (deposit_figures r)
IsLine (of_total r) line = line ≡ line_of total_kind (total_figures r)
IsLine (of_fault r) line = line ≡ line_of fault_kind (fault_figures r)
IsLine (no_frame refusal) line = line_refusal all_kinds line ≡ Some refusal

-- the class, the security or the first class of a pair
abbrev pub place_of : RowRecord → ℕ
place_of (class_record r) = r.class
place_of (security_record r) = r.security
place_of (pair_record r) = r.first

-- why a row is refused after these rows and bookings, if it is: none follows a booking
abbrev pub row_fault_after : List RowRecord → List BookingRecord → RowRecord → Option Fault
row_fault_after items [] item = refused_at (place_of item) (row_refusal (sheet_of items) item)
row_fault_after items (b ∷ bookings) item = Some out_of_order

-- the same of a booking
abbrev pub booking_fault_after : List BookingRecord → BookingRecord → Option Fault
booking_fault_after bookings b = fault_of Book b.security (refusal_after bookings b)

-- and of a line: one that is no row and no booking is refused wherever it stands
abbrev pub fault_after : List RowRecord → List BookingRecord → LineRead → Option Fault
fault_after items bookings (of_row item) = row_fault_after items bookings item
fault_after items bookings (of_booking b) = booking_fault_after bookings b
fault_after items bookings (of_deposit r) = Some out_of_order
fault_after items bookings (of_total r) = Some out_of_order
fault_after items bookings (of_fault r) = Some out_of_order
fault_after items bookings (no_frame refusal) = Some (frame_fault refusal)

-- the line is refused with this fault after these rows and bookings
abbrev pub RefusedAfter : List RowRecord → List BookingRecord → List ℕ → Fault → Type 0
RefusedAfter items bookings line f = (what : LineRead) × IsLine what line × (fault_after items bookings what ≡ Some f)

-- ---- a text

-- what a text is: too long; rows and bookings, and then a line that is refused, and whatever lines; or rows and bookings alone, of
-- which the deposit is refused, or told
pub data Reading : Type 0 where
  too_long : Reading
  line_refused : List RowRecord → List BookingRecord → List ℕ → List (List ℕ) → Fault → Reading
  deposit_refused : List RowRecord → List BookingRecord → Fault → Reading
  deposit_told : List RowRecord → List BookingRecord → Reading

-- a text that is short enough is the frames of these rows and bookings and then these lines, each with its line feed, which the last
-- may lack; no row is refused at the rows before it, and no booking at the bookings before it
pub record Begins (items : List RowRecord) (bookings : List BookingRecord) (later : List (List ℕ)) (text : List ℕ) : Type 0 where
  pub short : length text ≤ text_limit
  pub lines : closed text ≡ fed (frames_of items bookings ++ later)
  pub unbroken : AllByRecursion Unbroken later
  pub rows_accepted : RowsAccepted items
  pub bookings_accepted : BookingsAccepted bookings

abbrev pub IsReading : Reading → List ℕ → Type 0
IsReading too_long text = text_limit < length text
IsReading (line_refused items bookings line later f) text = Begins items bookings (line ∷ later) text × RefusedAfter items bookings line f
IsReading (deposit_refused items bookings f) text = Begins items bookings [] text × (portfolio_fault (sheet_of items) (nets_of bookings) ≡ Some f)
IsReading (deposit_told items bookings) text = Begins items bookings [] text × (portfolio_fault (sheet_of items) (nets_of bookings) ≡ None)
