-- What a book of positions means: what is held of each security, and how many bookings are left. Assumes nothing.
use Rattle.std.specs.Prelude.{◌≡◌, ℕ, ◌-◌, ◌≤◌, Bool, true, cond, not, ◌&&◌, ℤ, pos, ◌+ℤ◌, ◌-ℤ◌, is_ok, None, Option, Result, ◌==◌, nat_le, nat_lt, unsigned_abs}
use Rattle.std.specs.Borrow.{MutBor}
use Rattle.terms.specs.Limits.{security_count, net_limit, quantity_limit}
use Rattle.terms.specs.Outcomes.{Step}
use Rattle.terms.specs.Questions.{ask, answer, fault_of}
use Rattle.terms.specs.declared.fault.Fault.{Fault}
use Rattle.terms.specs.declared.layer.Layer.{Layer}
use Rattle.terms.specs.declared.refusal.Refusal.{Refusal}
use Rattle.terms.specs.declared.refusal.Refusal.TheVariants.{UnknownSecurity, QuantityOutOfRange, NoBookingLeft, NetOutOfRange}
use Rattle.books.specs.declared.booking.Booking.{Booking}

-- z lies within ±n
abbrev pub Within : ℕ → ℤ → Type 0
Within n z = unsigned_abs z ≤ n

-- whether z lies within ±n
abbrev pub within : ℕ → ℤ → Bool
within n z = nat_le (unsigned_abs z) n

-- whether z is 0
abbrev pub is_zero : ℤ → Bool
is_zero z = unsigned_abs z == 0

-- ---- what is held

-- of a security
pub record Holding : Type 0 where
  pub net : ℤ

-- nothing
abbrev pub nothing : Holding
nothing = record { net = pos 0 }

-- whether it is nothing
abbrev pub is_nothing : Holding → Bool
is_nothing h = is_zero h.net

-- two holdings together, and one without the other, figure by figure
abbrev pub plus : Holding → Holding → Holding
plus h k = record { net = h.net +ℤ k.net }

abbrev pub minus : Holding → Holding → Holding
minus h k = record { net = h.net -ℤ k.net }

-- what a booking adds to what is held of its security, and the booking that adds so much
abbrev pub added : Booking → Holding
added b = record { net = b.quantity }

abbrev pub booking_of : ℕ → Holding → Booking
booking_of security h = record { security = security; quantity = h.net }

-- nothing of any security
abbrev pub no_holdings : ℕ → Holding
no_holdings s = nothing

-- what is held after a booking
abbrev pub with_booking : (ℕ → Holding) → Booking → ℕ → Holding
with_booking holdings b s = cond (s == b.security) (plus (holdings s) (added b)) (holdings s)

-- ---- an account

-- what is held of each security, and how many bookings are left
pub record Account : Type 0 where
  pub holdings : ℕ → Holding
  pub left : ℕ

-- the net of each security
abbrev pub nets_of : Account → ℕ → ℤ
nets_of a s = (a.holdings s).net

-- an account of these nets
abbrev pub account_of : (ℕ → ℤ) → ℕ → Account
account_of nets left = record { holdings = λ s. record { net = nets s }; left = left }

-- the account after a booking: it moves what is held of this security alone, and uses one booking up
abbrev pub booked : Account → Booking → Account
booked a b = record { holdings = with_booking a.holdings b; left = a.left - 1 }

-- whether there is such a security
abbrev pub listed : ℕ → Bool
listed security = nat_lt security security_count

-- whether a booking may have this quantity
abbrev pub bookable : ℤ → Bool
bookable quantity = not (is_zero quantity) && within quantity_limit quantity

-- the question put to the reading of a net
abbrev pub reading_refusal : ℕ → Option Refusal
reading_refusal security = ask (listed security) UnknownSecurity None

-- the questions put to a booking, in their order
abbrev pub booking_refusal : Account → Booking → Option Refusal
booking_refusal a b =
    ask (listed b.security) UnknownSecurity
    (ask (bookable b.quantity) QuantityOutOfRange
    (ask (nat_lt 0 a.left) NoBookingLeft
    (ask (within net_limit (nets_of a b.security +ℤ b.quantity)) NetOutOfRange
    None)))

-- what a call gives that tells nothing but whether it was refused
abbrev pub Answer : Type 0
Answer = Result (Unit {0}) Fault

-- why a booking is refused, if it is: the first question answered no decides
abbrev pub booking_fault_in : Layer → Account → Booking → Option Fault
booking_fault_in layer a b = fault_of layer b.security (booking_refusal a b)

-- the answer to a booking
abbrev pub booking_answer : Layer → Account → Booking → Answer
booking_answer layer a b = answer layer b.security tt (booking_refusal a b)

-- ---- a book

-- What a book means: its account, what an accepted booking does to the whole value, memory handed in included, and the layer
-- that its faults carry.
pub record Meaning (B : Type 0) : Type 1 where
  pub account : B → Account
  pub posts : B → Booking → B → Type 0
  pub layer : Layer

-- a booking that shows in the account alone
abbrev pub no_more : {B : Type 0} → B → Booking → B → Type 0
no_more before booking after = Unit {0}

-- a book that is lent means what it does where it is; a booking is posted to the book that was lent
abbrev pub lent_meaning : {B : Type 0} → Meaning B → Meaning (MutBor B)
lent_meaning book = record {
  account = λ r. book.account r.now;
  posts = λ r b t. (t.ghost_name ≡ r.ghost_name) × book.posts r.now b t.now;
  layer = book.layer;
}

-- What a booking does to a book.
pub record Books {B : Type 0} (book : Meaning B) (before : B) (booking : Booking) (result : Answer) (after : B) : Type 0 where
  -- it is refused, and then nothing changes, or it is entered in the account
  pub step : Step book.account (booking_fault_in book.layer (book.account before) booking) (booked (book.account before) booking) before result after
  -- and then does to the whole value what the book says
  pub posted : is_ok result ≡ true → book.posts before booking after
