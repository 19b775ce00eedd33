-- The frames of records as the lines of a text. Assumes nothing.
use Rattle.std.proofs.Common.{◌≡◌, ℕ, ◌<◌, List, [], ◌∷◌, ◌++◌, map, subst, arith}
use Rattle.std.proofs.ByRecursion.{All-append}
use Rattle.std.specs.List.{AllByRecursion}
use Rattle.frames.specs.Fields.{text_of}
use Rattle.frames.specs.Frames.{line_of}
use Rattle.frames.specs.Hex.{value_of, digits_of}
use Rattle.frames.specs.Kinds.{Kind, class_kind, security_kind, pair_kind, booking_kind}
use Rattle.frames.specs.Numbers.{Hex, hex_digits_of}
use Rattle.frames.specs.Classes.{class_figures}
use Rattle.frames.specs.Securities.{security_figures}
use Rattle.frames.specs.Pairs.{pair_figures}
use Rattle.frames.specs.Bookings.{booking_figures}
use Rattle.frames.specs.declared.kinds.booking.BookingRecord.{BookingRecord}
use Rattle.frames.specs.Texts.{hex_text}
use Rattle.lines.specs.Lines.{Unbroken, closed, fed, lines_of}
use Rattle.lines.proofs.Feeds.{lines_only}
use Rattle.intake.specs.Listings.{RowRecord, class_record, security_record, pair_record, row_frame, booking_frame, frames_of}

-- no line feed is a digit
digits_unbroken : (line : List ℕ) → Hex line → Unbroken line
digits_unbroken [] h = tt
digits_unbroken (c ∷ line) h = (λ e. let low : 16 < 16 = subst (λ n. value_of n < 16) e h.0 in omega arith, digits_unbroken line h.1)

-- a line of a frame is digits
frame_unbroken : (k : Kind) (figures : List ℕ) → Unbroken (line_of k figures)
frame_unbroken k figures =
    digits_unbroken (line_of k figures) (All-append (λ c. value_of c < 16) (digits_of 2 k.byte) (text_of k.widths figures) (hex_digits_of 2 k.byte) (hex_text k.widths figures))

row_unbroken : (item : RowRecord) → Unbroken (row_frame item)
row_unbroken (class_record r) = frame_unbroken class_kind (class_figures r)
row_unbroken (security_record r) = frame_unbroken security_kind (security_figures r)
row_unbroken (pair_record r) = frame_unbroken pair_kind (pair_figures r)

rows_unbroken : (items : List RowRecord) → AllByRecursion Unbroken (map row_frame items)
rows_unbroken [] = tt
rows_unbroken (item ∷ items) = (row_unbroken item, rows_unbroken items)

bookings_unbroken : (bookings : List BookingRecord) → AllByRecursion Unbroken (map booking_frame bookings)
bookings_unbroken [] = tt
bookings_unbroken (b ∷ bookings) = (frame_unbroken booking_kind (booking_figures b), bookings_unbroken bookings)

-- a text that is put together from frames and other lines has just these lines
pub lines_are : (items : List RowRecord) (bookings : List BookingRecord) (later : List (List ℕ)) (text : List ℕ) → closed text ≡ fed (frames_of items bookings ++ later) → AllByRecursion Unbroken later
    → lines_of text ≡ frames_of items bookings ++ later
lines_are items bookings later text is unbroken =
    let rows = map row_frame items in
    let booked = map booking_frame bookings in
    lines_only text (frames_of items bookings ++ later) is
    (All-append Unbroken (rows ++ booked) later (All-append Unbroken rows booked (rows_unbroken items) (bookings_unbroken bookings)) unbroken)
