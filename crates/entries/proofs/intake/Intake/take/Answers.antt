use Rattle.std.proofs.Common.{Err, ap, ◌∙◌}
use Rattle.std.proofs.lemmas.Result.{err_from_is_err_and}
use Rattle.entries.proofs.Taking.{fields_pass, frame_brings, row_taken, booking_taken, booking_refused}
use Rattle.entries.proofs.intake.Intake.take.Goals as goal

pub add_class-requires : goal.add_class-requires
add_class-requires c = fields_pass _ _ _ _ c.in_ok-frame.ensures c.in-Rows-Class.is-1

pub add_security-requires : goal.add_security-requires
add_security-requires c = fields_pass _ _ _ _ c.in_ok-frame.ensures c.in-Rows-Security.is-1

pub add_pair-requires : goal.add_pair-requires
add_pair-requires c = fields_pass _ _ _ _ c.in_ok-frame.ensures c.in-Rows-Pair.is-1

pub book-requires : goal.book-requires
book-requires c = fields_pass _ _ _ _ c.in_ok-frame.ensures c.in_default-Booking.is-1

pub returns-in-Rows-Security : goal.returns-in-Rows-Security
returns-in-Rows-Security c =
    let framed = c.in_ok-frame.ensures in
    row_taken c.args.self.now c.args.line.digits.now framed.passes _ (frame_brings _ _ _ _ framed c.in-Rows-Security.is-1) c.in-Rows-Security.is-0 _ _ c.add_security.ensures

pub returns-in-Rows-Pair : goal.returns-in-Rows-Pair
returns-in-Rows-Pair c =
    let framed = c.in_ok-frame.ensures in
    row_taken c.args.self.now c.args.line.digits.now framed.passes _ (frame_brings _ _ _ _ framed c.in-Rows-Pair.is-1) c.in-Rows-Pair.is-0 _ _ c.add_pair.ensures

pub returns-in_err-book-in_default-Booking : goal.returns-in_err-book-in_default-Booking
returns-in_err-book-in_default-Booking c =
    let framed = c.in_ok-frame.ensures in
    let exit = err_from_is_err_and c.from_residual-in_err-book-in_default-Booking.result c.from_residual-in_err-book-in_default-Booking.ensures.1 in
    booking_refused c.args.self.now c.args.line.digits.now framed.passes _ _ (frame_brings _ _ _ _ framed c.in_default-Booking.is-1) _ _ c.in_err-book-in_default-Booking.ensures _ (exit.1 ∙ ap Err exit.2)

pub returns-in_ok-book-in_default-Booking : goal.returns-in_ok-book-in_default-Booking
returns-in_ok-book-in_default-Booking c =
    let framed = c.in_ok-frame.ensures in
    booking_taken c.args.self.now c.args.line.digits.now framed.passes _ _ (frame_brings _ _ _ _ framed c.in_default-Booking.is-1) _ c.in_ok-book-in_default-Booking.ensures
