-- Accounts, figure by figure.
use Rattle.std.proofs.Common.{◌≡◌, ℕ, Bool, true, false, cond, eqb, ℤ, ◌+ℤ◌, ◌-ℤ◌, refl, arith}
use lib.IntN.{+ℤ_idr, +ℤ_invr}
use Rattle.std.proofs.lemmas.Int.{ints}
use Rattle.std.proofs.lemmas.Bool.{cond-true, cond-false, eq-eqb, ne_eqb}
use Rattle.books.specs.declared.booking.Booking.{Booking}
use Rattle.books.specs.Books.{Account, Holding, added, booked, minus, nets_of, nothing, plus, with_booking}

-- holdings are the same where each figure is
pub same_holding : (h k : Holding) → h.net ≡ k.net → h ≡ k
same_holding h k e = λ i. record { net = e i }

-- and accounts where each holding is, and as many bookings are left
pub same_account : (a c : Account) → ((s : ℕ) → nets_of a s ≡ nets_of c s) → a.left ≡ c.left → a ≡ c
same_account a c e l = λ i. record { holdings = λ s. same_holding (a.holdings s) (c.holdings s) (e s) i; left = l i }

-- what is held together with nothing, and together with what it lacks of another
pub plus_nothing : (h : Holding) → plus h nothing ≡ h
plus_nothing h = same_holding (plus h nothing) h (+ℤ_idr h.net)

pub plus_minus : (h k : Holding) → plus k (minus h k) ≡ h
plus_minus h k = same_holding (plus k (minus h k)) h (let e : k.net +ℤ (h.net -ℤ k.net) ≡ h.net = omega (arith, ints) in e)

pub minus_same : (h : Holding) → minus h h ≡ nothing
minus_same h = same_holding (minus h h) nothing (+ℤ_invr h.net)

-- a booking moves what is held of its security
pub booked_same : (holdings : ℕ → Holding) (b : Booking) → with_booking holdings b b.security ≡ plus (holdings b.security) (added b)
booked_same holdings b = cond-true (eqb b.security b.security) _ _ (eq-eqb b.security b.security refl)

-- and of no other
pub booked_other : (holdings : ℕ → Holding) (b : Booking) (s : ℕ) → (s ≡ b.security → ⊥) → with_booking holdings b s ≡ holdings s
booked_other holdings b s ne = cond-false (eqb s b.security) _ _ (ne_eqb s b.security ne)

-- its net moves by the quantity
either_way : (t : Bool) (h k : Holding) → (cond t h k).net ≡ cond t h.net k.net
either_way true h k = refl
either_way false h k = refl

abbrev pub shifted : (ℕ → ℤ) → ℕ → ℤ → ℕ → ℤ
shifted nets security quantity s = cond (eqb s security) (nets s +ℤ quantity) (nets s)

pub booked_net : (a : Account) (b : Booking) (s : ℕ) → nets_of (booked a b) s ≡ shifted (nets_of a) b.security b.quantity s
booked_net a b s = either_way (eqb s b.security) (plus (a.holdings s) (added b)) (a.holdings s)
