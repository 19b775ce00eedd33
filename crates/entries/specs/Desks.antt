-- What a desk holds while it takes the lines of a text, and what a line does to it. Assumes nothing.
use Rattle.std.specs.Prelude.{ℕ, Bool, true, false, List, ℤ, Some, None, Option}
use Rattle.terms.specs.Refusals.{fault_at, refused_at}
use Rattle.terms.specs.declared.fault.Fault.{Fault}
use Rattle.terms.specs.declared.layer.Layer.TheVariants.{Book}
use Rattle.terms.specs.declared.refusal.Refusal.TheVariants.{LineOutOfOrder}
use Rattle.terms.specs.Limits.{booking_limit}
use Rattle.terms.specs.Questions.{ask, or_else}
use Rattle.frames.specs.Frames.{line_refusal}
use Rattle.frames.specs.Kinds.{all_kinds}
use Rattle.rules.specs.Rows.{Rows}
use Rattle.sheets.specs.Drafts.{no_rows, with_class, with_security, with_pair, class_refusal, security_refusal, pair_refusal}
use Rattle.books.specs.declared.booking.Booking.{Booking}
use Rattle.books.specs.Books.{Account, booked, booking_fault_in, no_holdings}
use Rattle.entries.specs.declared.intake.Stage.{Stage}
use Rattle.entries.specs.declared.intake.Stage.TheVariants.{Rows as InRows, Bookings as InBookings}
use Rattle.entries.specs.Entries.{Row, of_class, of_security, of_pair, Entry, row_entry, booking_entry, entry_of}

-- the stage, the rows so far, and the account of the book
pub record Desk : Type 0 where
  pub stage : Stage
  pub rows : Rows
  pub account : Account

-- no row and no booking
abbrev pub empty_desk : Stage → Desk
empty_desk stage = record { stage = stage; rows = no_rows; account = record { holdings = no_holdings; left = booking_limit } }

-- before the first line
abbrev pub nothing_taken : Desk
nothing_taken = empty_desk InRows

-- refusal 35
abbrev pub out_of_order : Fault
out_of_order = fault_at 0 LineOutOfOrder

-- no row follows a booking
abbrev pub in_order : Stage → Entry → Bool
in_order InRows e = true
in_order InBookings (row_entry row) = false
in_order InBookings (booking_entry s quantity) = true

-- why these rows refuse one more, if they do
abbrev pub row_fault : Rows → Row → Option Fault
row_fault rows (of_class c row) = refused_at c (class_refusal rows c row)
row_fault rows (of_security s row) = refused_at s (security_refusal rows s row)
row_fault rows (of_pair pair) = refused_at pair.first (pair_refusal rows pair)

abbrev pub with_row : Rows → Row → Rows
with_row rows (of_class c row) = with_class rows c row
with_row rows (of_security s row) = with_security rows s row
with_row rows (of_pair pair) = with_pair rows pair

-- why a book refuses a booking, if it does
abbrev pub booking_fault : Account → Booking → Option Fault
booking_fault account b = booking_fault_in Book account b

-- the booking of an entry
abbrev pub entered : ℕ → ℤ → Booking
entered s quantity = record { security = s; quantity = quantity }

abbrev pub own_fault : Desk → Entry → Option Fault
own_fault d (row_entry row) = row_fault d.rows row
own_fault d (booking_entry s quantity) = booking_fault d.account (entered s quantity)

-- a line has to bring something, in its order, and the rows or the book have to take it
abbrev pub entry_fault : Desk → Option Entry → Option Fault
entry_fault d None = Some out_of_order
entry_fault d (Some e) = ask (in_order d.stage e) out_of_order (own_fault d e)

-- the fault of a line at a desk: the questions put to every line come first
abbrev pub line_fault_lem : Desk → List ℕ → Option Fault
line_fault_lem d line = or_else (refused_at 0 (line_refusal all_kinds line)) (entry_fault d (entry_of line))

-- the desk once an entry is taken
abbrev pub with_entry : Desk → Entry → Desk
with_entry d (row_entry row) = record { stage = d.stage; rows = with_row d.rows row; account = d.account }
with_entry d (booking_entry s quantity) = record { stage = InBookings; rows = d.rows; account = booked d.account (entered s quantity) }

abbrev pub with_brought : Desk → Option Entry → Desk
with_brought d None = d
with_brought d (Some e) = with_entry d e

-- the desk once a line is taken
abbrev pub with_line : Desk → List ℕ → Desk
with_line d line = with_brought d (entry_of line)
