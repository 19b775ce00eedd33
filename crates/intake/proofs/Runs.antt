-- The lines of accepted records are taken one after the other, and a line after them is refused as its record says. Assumes nothing.
use Rattle.std.proofs.Common.{◌≡◌, ℕ, ◌+◌, List, [], ◌∷◌, ◌++◌, map, length, ℤ, Some, None, Err, Option, refl, ap, ◌∙◌, arith}
use Rattle.std.proofs.lemmas.List.{append_assoc, length_push, map_push}
use Rattle.terms.specs.Refusals.{refused_at}
use Rattle.terms.specs.declared.fault.Fault.{Fault}
use Rattle.terms.specs.declared.layer.Layer.TheVariants.{Book}
use Rattle.terms.specs.Questions.{ask, fault_of, or_else}
use Rattle.terms.specs.Choices.{signed}
use Rattle.frames.specs.Frames.{line_of, line_refusal}
use Rattle.frames.specs.Kinds.{all_kinds, deposit_kind, total_kind, fault_kind}
use Rattle.frames.specs.Deposits.{deposit_figures}
use Rattle.frames.specs.Totals.{total_figures}
use Rattle.frames.specs.Faults.{fault_figures}
use Rattle.frames.specs.declared.kinds.booking.BookingRecord.{BookingRecord}
use Rattle.rules.specs.Rows.{Rows, Lawful}
use Rattle.entries.specs.declared.intake.Stage.{Stage}
use Rattle.entries.specs.declared.intake.Stage.TheVariants.{Rows as InRows, Bookings as InBookings}
use Rattle.entries.specs.Desks.{Desk, entry_fault, line_fault_lem, out_of_order, row_fault, nothing_taken, with_brought, with_line}
use Rattle.entries.specs.Entries.{Entry, booking_entry, entry_of, row_entry}
use Rattle.intake.specs.Listings.{RowRecord, class_record, security_record, pair_record, row_frame, booking_frame, frames_of, row_refusal, sheet_of, account_after, refusal_after, AcceptsRow, AcceptsBooking, Each, RowsAccepted, BookingsAccepted}
use Rattle.intake.specs.Readings.{LineRead, of_row, of_booking, of_deposit, of_total, of_fault, no_frame, IsLine, RefusedAfter, booking_fault_after, fault_after, place_of, row_fault_after}
use Rattle.entries.specs.Reading.{after_lines, in_line, or_later}
use Rattle.entries.proofs.Taking.{always}
use Rattle.intake.proofs.Accepted.{by_each}
use Rattle.intake.proofs.Framed.{row_passes, row_brings, booking_passes, booking_brings, deposit_passes, deposit_brings, total_passes, total_brings, fault_passes, fault_brings}
use Rattle.intake.proofs.Listed.{row_of, sheet_push, lawful_none, lawful_push, account_push}

-- a line that passes, brings an entry and has no fault
took : (d : Desk) (line : List ℕ) (e : Entry) → line_refusal all_kinds line ≡ None → entry_of line ≡ Some e → entry_fault d (Some e) ≡ None → (after : Desk) → with_brought d (Some e) ≡ after
    → (number : ℕ) (rest : List (List ℕ)) → after_lines number d (line ∷ rest) ≡ after_lines (number + 1) after rest
took d line e passes brings accepted after is number rest =
    let none : line_fault_lem d line ≡ None = ap (λ q. or_else (refused_at 0 q) (entry_fault d (entry_of line))) passes ∙ ap (entry_fault d) brings ∙ accepted in
    ap (λ o. or_later o number (after_lines (number + 1) (with_line d line) rest)) none
    ∙ ap (λ x. after_lines (number + 1) x rest) (ap (with_brought d) brings ∙ is)

-- the desk with these rows and these bookings
abbrev stage_of : List BookingRecord → Stage
stage_of [] = InRows
stage_of (b ∷ bookings) = InBookings

abbrev pub desk_with : List RowRecord → List BookingRecord → Desk
desk_with items bookings = record { stage = stage_of bookings; rows = sheet_of items; account = account_after bookings }

-- ---- rows

row_faults : (rows : Rows) (item : RowRecord) → row_fault rows (row_of item) ≡ refused_at (place_of item) (row_refusal rows item)
row_faults rows (class_record r) = refl
row_faults rows (security_record r) = refl
row_faults rows (pair_record r) = refl

row_step : (items : List RowRecord) (item : RowRecord) → AcceptsRow items item → (number : ℕ) (rest : List (List ℕ))
    → after_lines number (desk_with items []) (row_frame item ∷ rest) ≡ after_lines (number + 1) (desk_with (items ++ item ∷ []) []) rest
row_step items item accepted number rest =
    took (desk_with items []) (row_frame item) (row_entry (row_of item)) (row_passes item) (row_brings item) (row_faults (sheet_of items) item ∙ ap (refused_at (place_of item)) accepted) (desk_with (items ++ item ∷ []) [])
    (ap (λ rows. record { stage = InRows; rows = rows; account = account_after [] }) (sheet_push items item accepted)) number rest

-- they make a lawful sheet
pub rows_lawful : (items : List RowRecord) → RowsAccepted items → Lawful (sheet_of items)
rows_lawful items accepted = by_each AcceptsRow (λ items. Lawful (sheet_of items)) (λ items item accepts lawful. lawful_push items lawful item accepts) items accepted lawful_none

-- ---- bookings

stage_push : (bookings : List BookingRecord) (b : BookingRecord) → InBookings ≡ stage_of (bookings ++ b ∷ [])
stage_push [] b = refl
stage_push (first ∷ bookings) b = refl

module _ (items : List RowRecord) where
  booking_step : (bookings : List BookingRecord) (b : BookingRecord) → AcceptsBooking bookings b → (number : ℕ) (rest : List (List ℕ))
      → after_lines number (desk_with items bookings) (booking_frame b ∷ rest) ≡ after_lines (number + 1) (desk_with items (bookings ++ b ∷ [])) rest
  booking_step bookings b accepted number rest =
      let q : ℤ = signed b.side b.quantity in
      took (desk_with items bookings) (booking_frame b) (booking_entry b.security q) (booking_passes b) (booking_brings b)
      (ap (λ t. ask t out_of_order (fault_of Book b.security (refusal_after bookings b))) (always (stage_of bookings) b.security q)
      ∙ ap (fault_of Book b.security) accepted)
      (desk_with items (bookings ++ b ∷ []))
      (λ i. record { stage = stage_push bookings b i; rows = sheet_of items; account = account_push bookings b i }) number rest

-- ---- both

-- frames of which each is taken at the desk of those before it
module _ {A : Type 0} (frame : A → List ℕ) (Accepts : List A → A → Type 0) (desk : List A → Desk)
    (step : (xs : List A) (x : A) → Accepts xs x → (number : ℕ) (rest : List (List ℕ)) → after_lines number (desk xs) (frame x ∷ rest) ≡ after_lines (number + 1) (desk (xs ++ x ∷ [])) rest)
    (number : ℕ) where
  abbrev Taken : List A → Type 0
  Taken xs = (rest : List (List ℕ)) → after_lines number (desk []) (map frame xs ++ rest) ≡ after_lines (number + length xs) (desk xs) rest

  none_taken : Taken []
  none_taken rest = let same : number ≡ number + 0 = omega arith in ap (λ n. after_lines n (desk []) rest) same

  one_more : (xs : List A) (x : A) → Accepts xs x → Taken xs → Taken (xs ++ x ∷ [])
  one_more xs x accepts taken = λ rest.
      let count : number + length xs + 1 ≡ number + length (xs ++ x ∷ []) = omega (arith, length_push xs x) in
      ap (λ l. after_lines number (desk []) (l ++ rest)) (map_push frame xs x) ∙ ap (after_lines number (desk [])) (append_assoc (map frame xs) (frame x ∷ []) rest)
      ∙ taken (frame x ∷ rest) ∙ step xs x accepts (number + length xs) rest ∙ ap (λ n. after_lines n (desk (xs ++ x ∷ [])) rest) count

  all_taken : (xs : List A) → Each Accepts xs → Taken xs
  all_taken xs accepted = by_each Accepts Taken one_more xs accepted none_taken

pub frames_run : (items : List RowRecord) (bookings : List BookingRecord) → RowsAccepted items → BookingsAccepted bookings → (later : List (List ℕ))
    → after_lines 1 nothing_taken (frames_of items bookings ++ later) ≡ after_lines (length items + length bookings + 1) (desk_with items bookings) later
frames_run items bookings rows_accepted bookings_accepted later =
    let count : (1 + length items) + length bookings ≡ length items + length bookings + 1 = omega arith in
    ap (after_lines 1 nothing_taken) (append_assoc (map row_frame items) (map booking_frame bookings) later)
    ∙ all_taken row_frame AcceptsRow (λ items. desk_with items []) row_step 1 items rows_accepted (map booking_frame bookings ++ later)
    ∙ all_taken booking_frame AcceptsBooking (desk_with items) (booking_step items) (1 + length items) bookings bookings_accepted later
    ∙ ap (λ n. after_lines n (desk_with items bookings) later) count

-- ---- a line after them

asked_after : (d : Desk) (line : List ℕ) (o : Option Entry) → line_refusal all_kinds line ≡ None → entry_of line ≡ o → line_fault_lem d line ≡ entry_fault d o
asked_after d line o passes brings = ap (λ q. or_else (refused_at 0 q) (entry_fault d (entry_of line))) passes ∙ ap (entry_fault d) brings

row_after : (items : List RowRecord) (bookings : List BookingRecord) (item : RowRecord) → entry_fault (desk_with items bookings) (Some (row_entry (row_of item))) ≡ row_fault_after items bookings item
row_after items [] item = row_faults (sheet_of items) item
row_after items (b ∷ bookings) item = refl

-- it is refused as what it is
pub fault_is : (items : List RowRecord) (bookings : List BookingRecord) (what : LineRead) (line : List ℕ) → IsLine what line → line_fault_lem (desk_with items bookings) line ≡ fault_after items bookings what
fault_is items bookings (of_row item) line is =
    let d = desk_with items bookings in
    ap (line_fault_lem d) is ∙ asked_after d (row_frame item) (Some (row_entry (row_of item))) (row_passes item) (row_brings item) ∙ row_after items bookings item
fault_is items bookings (of_booking b) line is =
    let d = desk_with items bookings in
    let q : ℤ = signed b.side b.quantity in
    ap (line_fault_lem d) is ∙ asked_after d (booking_frame b) (Some (booking_entry b.security q)) (booking_passes b) (booking_brings b)
    ∙ ap (λ t. ask t out_of_order (booking_fault_after bookings b)) (always (stage_of bookings) b.security q)
fault_is items bookings (of_deposit r) line is =
    let d = desk_with items bookings in
    ap (line_fault_lem d) is ∙ asked_after d (line_of deposit_kind (deposit_figures r)) None (deposit_passes r) (deposit_brings r)
fault_is items bookings (of_total r) line is =
    let d = desk_with items bookings in
    ap (line_fault_lem d) is ∙ asked_after d (line_of total_kind (total_figures r)) None (total_passes r) (total_brings r)
fault_is items bookings (of_fault r) line is =
    let d = desk_with items bookings in
    ap (line_fault_lem d) is ∙ asked_after d (line_of fault_kind (fault_figures r)) None (fault_passes r) (fault_brings r)
fault_is items bookings (no_frame refusal) line is =
    let d = desk_with items bookings in
    ap (λ q. or_else (refused_at 0 q) (entry_fault d (entry_of line))) is

pub refused_is : (items : List RowRecord) (bookings : List BookingRecord) (line : List ℕ) (f : Fault) → RefusedAfter items bookings line f → line_fault_lem (desk_with items bookings) line ≡ Some f
refused_is items bookings line f refused = fault_is items bookings refused.0 line refused.1 ∙ refused.2

pub refused_run : (number : ℕ) (d : Desk) (line : List ℕ) (later : List (List ℕ)) (f : Fault) → line_fault_lem d line ≡ Some f → after_lines number d (line ∷ later) ≡ Err (in_line number f)
refused_run number d line later f refused = ap (λ o. or_later o number (after_lines (number + 1) (with_line d line) later)) refused
