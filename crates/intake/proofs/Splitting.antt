-- Each text has a reading. Assumes nothing.
use Rattle.std.proofs.Common.{◌≡◌, ℕ, ◌<◌, ◌≤◌, List, [], ◌∷◌, ◌++◌, map, length, Some, None, Option, sym, refl, ap, ◌∙◌, subst, ⊎_elim, arith}
use Rattle.std.proofs.lemmas.Bool.{cases_lt}
use Rattle.std.proofs.lemmas.List.{append-nil, append_assoc, map_push}
use Rattle.std.specs.List.{AllByRecursion}
use Rattle.terms.specs.declared.fault.Fault.{Fault}
use Rattle.terms.specs.declared.layer.Layer.TheVariants.{Book}
use Rattle.terms.specs.Limits.{text_limit}
use Rattle.frames.specs.declared.kinds.booking.BookingRecord.{BookingRecord}
use Rattle.lines.specs.Lines.{Unbroken, fed, lines_of}
use Rattle.lines.proofs.Feeds.{lines_joined, lines_unbroken}
use Rattle.positions.specs.Questions.{portfolio_fault}
use Rattle.terms.proofs.Answered.{unfaulted, unrefused}
use Rattle.intake.specs.Listings.{RowRecord, row_frame, booking_frame, frames_of, sheet_of, nets_of, row_refusal, refusal_after, AcceptsRow, AcceptsBooking, RowsAccepted, BookingsAccepted}
use Rattle.intake.specs.Readings.{LineRead, of_row, of_booking, of_deposit, of_total, of_fault, no_frame, IsLine, fault_after, place_of, RefusedAfter, Reading, too_long, line_refused, deposit_refused, deposit_told, Begins, IsReading}
use Rattle.intake.proofs.Accepted.{each_push, none_before}
use Rattle.intake.proofs.Decoding.{decoded}

-- ---- lines: accepted ones, and then none, or one that is refused

abbrev pub Halts : List RowRecord → List BookingRecord → List (List ℕ) → Type 0
Halts items bookings [] = Unit {0}
Halts items bookings (line ∷ later) = (f : Fault) × RefusedAfter items bookings line f

record Split (lines : List (List ℕ)) : Type 0 where
  items : List RowRecord
  bookings : List BookingRecord
  later : List (List ℕ)
  whole : lines ≡ frames_of items bookings ++ later
  unbroken : AllByRecursion Unbroken later
  rows_accepted : RowsAccepted items
  bookings_accepted : BookingsAccepted bookings
  halts : Halts items bookings later

module _ (line : List ℕ) (later : List (List ℕ)) (unbroken : AllByRecursion Unbroken (line ∷ later)) where
  -- the lines after it are split already
  abbrev Onwards : Type 0
  Onwards = (items : List RowRecord) (bookings : List BookingRecord) → RowsAccepted items → BookingsAccepted bookings → Split (frames_of items bookings ++ later)

  module _ (onwards : Onwards) (items : List RowRecord) (rows_accepted : RowsAccepted items) where
    row_on : (item : RowRecord) → line ≡ row_frame item → RowsAccepted (items ++ item ∷ []) → BookingsAccepted [] → Split (frames_of items [] ++ line ∷ later)
    row_on item is accepted none =
        let rows = map row_frame items in
        let pushed : frames_of (items ++ item ∷ []) [] ++ later ≡ frames_of items [] ++ line ∷ later =
        ap (λ l. l ++ later) (append-nil (map row_frame (items ++ item ∷ [])) ∙ map_push row_frame items item) ∙ append_assoc rows (row_frame item ∷ []) later
        ∙ ap (λ l. rows ++ l ∷ later) (sym is) ∙ ap (λ l. l ++ line ∷ later) (sym (append-nil rows)) in
        subst Split pushed (onwards (items ++ item ∷ []) [] accepted none)

    booking_on : (bookings : List BookingRecord) (b : BookingRecord) → line ≡ booking_frame b → BookingsAccepted (bookings ++ b ∷ []) → Split (frames_of items bookings ++ line ∷ later)
    booking_on bookings b is accepted =
        let rows = map row_frame items in
        let booked = map booking_frame bookings in
        let pushed : frames_of items (bookings ++ b ∷ []) ++ later ≡ frames_of items bookings ++ line ∷ later =
        ap (λ l. (rows ++ l) ++ later) (map_push booking_frame bookings b) ∙ ap (λ l. l ++ later) (sym (append_assoc rows booked (booking_frame b ∷ [])))
        ∙ append_assoc (rows ++ booked) (booking_frame b ∷ []) later ∙ ap (λ l. (rows ++ booked) ++ l ∷ later) (sym is) in
        subst Split pushed (onwards items (bookings ++ b ∷ []) rows_accepted accepted)

    next : (bookings : List BookingRecord) → BookingsAccepted bookings → (what : LineRead) → IsLine what line → (o : Option Fault) → fault_after items bookings what ≡ o
        → Split (frames_of items bookings ++ line ∷ later)
    next bookings accepted what is (Some f) e = record {
      items = items;
      bookings = bookings;
      later = line ∷ later;
      whole = refl;
      unbroken = unbroken;
      rows_accepted = rows_accepted;
      bookings_accepted = accepted;
      halts = (f, (what, is, e));
    }
    next [] accepted (of_row item) is None e = row_on item is (each_push AcceptsRow items item rows_accepted (unrefused (place_of item) (row_refusal (sheet_of items) item) e)) accepted
    next (b ∷ bookings) accepted (of_row item) is None e = let z : ◌≡◌ {A = ℕ} 0 1 = cc in absurd (omega arith)
    next bookings accepted (of_booking b) is None e =
        booking_on bookings b is
        (each_push AcceptsBooking bookings b accepted (unfaulted Book b.security (refusal_after bookings b) e))
    next bookings accepted (of_deposit r) is None e = let z : ◌≡◌ {A = ℕ} 0 1 = cc in absurd (omega arith)
    next bookings accepted (of_total r) is None e = let z : ◌≡◌ {A = ℕ} 0 1 = cc in absurd (omega arith)
    next bookings accepted (of_fault r) is None e = let z : ◌≡◌ {A = ℕ} 0 1 = cc in absurd (omega arith)
    next bookings accepted (no_frame refusal) is None e = let z : ◌≡◌ {A = ℕ} 0 1 = cc in absurd (omega arith)

splits : (lines : List (List ℕ)) → AllByRecursion Unbroken lines → (items : List RowRecord) (bookings : List BookingRecord) → RowsAccepted items → BookingsAccepted bookings
    → Split (frames_of items bookings ++ lines)
splits [] unbroken items bookings rows_accepted bookings_accepted = record {
  items = items;
  bookings = bookings;
  later = [];
  whole = refl;
  unbroken = tt;
  rows_accepted = rows_accepted;
  bookings_accepted = bookings_accepted;
  halts = tt;
}
splits (line ∷ later) unbroken items bookings rows_accepted bookings_accepted =
    let what = decoded line in
    next line later unbroken (splits later unbroken.1) items rows_accepted bookings bookings_accepted what.0 what.1 (fault_after items bookings what.0) refl

-- ---- the text

module _ (text : List ℕ) (short : length text ≤ text_limit) where
  abbrev Found : Type 0
  Found = (r : Reading) × IsReading r text

  settled : (items : List RowRecord) (bookings : List BookingRecord) → Begins items bookings [] text → (o : Option Fault) → portfolio_fault (sheet_of items) (nets_of bookings) ≡ o → Found
  settled items bookings begins (Some f) e = (deposit_refused items bookings f, (begins, e))
  settled items bookings begins None e = (deposit_told items bookings, (begins, e))

  halted : (items : List RowRecord) (bookings : List BookingRecord) (later : List (List ℕ)) → Begins items bookings later text → Halts items bookings later → Found
  halted items bookings [] begins halts = settled items bookings begins (portfolio_fault (sheet_of items) (nets_of bookings)) refl
  halted items bookings (line ∷ later) begins halts = (line_refused items bookings line later halts.0, (begins, halts.1))

  short_found : Found
  short_found =
      let s = splits (lines_of text) (lines_unbroken text) [] [] (none_before AcceptsRow) (none_before AcceptsBooking) in
      halted s.items s.bookings s.later
      (record { short = short; lines = sym (lines_joined text) ∙ ap fed s.whole; unbroken = s.unbroken; rows_accepted = s.rows_accepted; bookings_accepted = s.bookings_accepted }) s.halts

pub found_reading : (text : List ℕ) → (r : Reading) × IsReading r text
found_reading text = ⊎_elim (λ (long : text_limit < length text). (too_long, long)) (λ (short : length text ≤ text_limit). short_found text short) (cases_lt text_limit (length text))
