-- What a list of bookings sums to. Assumes nothing.
use Rattle.std.specs.Prelude.{ℕ, cond, List, [], ◌∷◌, ℤ, pos, ◌+ℤ◌, ◌==◌}
use Rattle.books.specs.declared.booking.Booking.{Booking}

-- what one booking adds to the net of a security
abbrev pub share : Booking → ℕ → ℤ
share b s = cond (s == b.security) b.quantity (pos 0)

-- the net of a security after these bookings
abbrev pub total : List Booking → ℕ → ℤ
total [] s = pos 0
total (b ∷ bs) s = share b s +ℤ total bs s
