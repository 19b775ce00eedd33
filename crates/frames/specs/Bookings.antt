-- B: the figures of the record of a booking, and that they and it tell each other. Assumes nothing.
use Rattle.std.specs.Prelude.{ℕ, List, [], ◌∷◌, refl}
use Rattle.terms.specs.Choices.{side_byte}
use Rattle.frames.specs.declared.kinds.booking.BookingRecord.{BookingRecord}
use Rattle.frames.specs.Kinds.{booking_fields, booking_kind}
use Rattle.frames.specs.Values.{Recorded, recorded}

abbrev pub booking_figures : BookingRecord → List ℕ
booking_figures r = r.security ∷ side_byte r.side ∷ r.quantity ∷ []

pub booking_laws : Recorded booking_kind booking_figures
booking_laws = recorded booking_kind.byte booking_fields booking_figures
    (λ r. (r.security, (r.side, (r.quantity, tt))))
    (λ v c. record { security = v.0; side = v.1.0; quantity = v.1.1.0; carried = c })
    (λ r. r.carried) (λ r. refl) (λ r. refl) (λ v c. refl) refl
