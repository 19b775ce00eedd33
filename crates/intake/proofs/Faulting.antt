-- The figures of a fault that is told fit their fields. Assumes nothing.
use Rattle.std.proofs.Common.{subst, ◌≡◌, ℕ, zero, suc, ◌+◌, ◌^◌, ◌<◌, ◌≤◌, true, List as Sequence, [], ◌∷◌, ◌++◌, map, length, ℤ, Some, None, Option, sym, refl, ap, arith, length-append}
use Rattle.std.proofs.lemmas.Bool.{and_from, and_parts, lt-ltb, ltb-true}
use Rattle.std.proofs.lemmas.List.{length-map}
use Rattle.terms.specs.declared.fault.Fault.{Fault}
use Rattle.terms.specs.declared.layer.Layer.{Layer}
use Rattle.terms.specs.declared.layer.Layer.TheVariants.{Book}
use Rattle.terms.specs.Refusals.{PlaceRule, at_security, at_class, nowhere, fault_at, meaning, placed, refused_at}
use Rattle.terms.specs.declared.refusal.Refusal.{Refusal}
use Rattle.terms.specs.declared.refusal.Refusal.TheVariants.{LineOutOfOrder}
use Rattle.terms.specs.Choices.{class_kind_byte, side_byte}
use Rattle.terms.specs.Limits.{security_count, text_limit}
use Rattle.terms.specs.Numbers.{layer_number}
use Rattle.terms.specs.Refusals.{refusal_number}
use Rattle.terms.specs.Questions.{fault_of, or_else}
use Rattle.frames.specs.Fields.{carries}
use Rattle.frames.specs.declared.kinds.booking.BookingRecord.{BookingRecord}
use Rattle.lines.specs.Lines.{lines_of}
use Rattle.lines.proofs.Feeds.{lines_few}
use Rattle.rules.specs.Rows.{Rows}
use Rattle.positions.specs.Questions.{first_below, held_fault, held_refusal, portfolio_fault}
use Rattle.intake.specs.Listings.{RowRecord, class_record, security_record, pair_record, row_frame, booking_frame}
use Rattle.intake.specs.Readings.{LineRead, of_row, of_booking, of_deposit, of_total, of_fault, no_frame, Begins, RefusedAfter, fault_after, place_of}
use Rattle.intake.specs.Yields.{FaultFits}
use Rattle.entries.specs.Reading.{in_line}
use Rattle.intake.proofs.Texts.{lines_are}

refusal_small : (r : Refusal) → refusal_number r < 16 ^ 2
refusal_small r = grind arith

layer_small : (l : Layer) → layer_number l < 16 ^ 2
layer_small l = grind arith

pub fault_fits : (f : Fault) (number : ℕ) → number ≤ text_limit → f.place < security_count → FaultFits (in_line number f)
fault_fits f number n p =
    and_from _ _ (lt-ltb (refusal_number f.refusal) (16 ^ 2) (refusal_small f.refusal))
    (and_from _ _ (lt-ltb (layer_number f.layer) (16 ^ 2) (layer_small f.layer))
    (and_from _ _ (lt-ltb number (16 ^ 8) (omega arith))
    (and_from _ _ (lt-ltb f.place (16 ^ 4) (omega arith)) refl)))

-- ---- places

place_is : (layer : Layer) (place : ℕ) (o : Option Refusal) (f : Fault) → fault_of layer place o ≡ Some f → f.place ≡ place
place_is layer place None f e = let z : ◌≡◌ {A = ℕ} 0 1 = cc in absurd (omega arith)
place_is layer place (Some refusal) f e = let same : record { refusal = refusal; layer = layer; place = place } ≡ f = cc in ap (λ (x : Fault). x.place) (sym same)

first_small : (rest : Sequence ℕ) (n : ℕ) (numbers : Sequence ℕ) → carries (1 ∷ rest) (n ∷ numbers) ≡ true → n < security_count
first_small rest n numbers h = ltb-true n security_count (and_parts _ _ h).0

row_place : (item : RowRecord) → place_of item < security_count
row_place (class_record r) = first_small (1 ∷ 3 ∷ 3 ∷ 3 ∷ []) r.class (class_kind_byte r.kind ∷ r.y ∷ r.x ∷ r.dep ∷ []) r.carried
row_place (security_record r) = first_small (1 ∷ 4 ∷ 3 ∷ 4 ∷ []) r.security (r.class ∷ r.price ∷ r.rate ∷ r.duration ∷ []) r.carried
row_place (pair_record r) = first_small (1 ∷ 3 ∷ []) r.first (r.second ∷ r.crt ∷ []) r.carried

placed_within : (rule : PlaceRule) (place : ℕ) → placed rule place ≤ place
placed_within at_security place = omega arith
placed_within at_class place = omega arith
placed_within nowhere place = omega arith

-- the place of a fault by the table is no larger than that of the call
place_within : (place : ℕ) (o : Option Refusal) (f : Fault) → refused_at place o ≡ Some f → f.place ≤ place
place_within place None f e = let z : ◌≡◌ {A = ℕ} 0 1 = cc in absurd (omega arith)
place_within place (Some refusal) f e =
    let same : fault_at place refusal ≡ f = cc in
    subst (λ (x : Fault). x.place ≤ place) same (placed_within (meaning refusal).place place)

line_place : (items : Sequence RowRecord) (bookings : Sequence BookingRecord) (what : LineRead) (f : Fault) → fault_after items bookings what ≡ Some f → f.place < security_count
line_place items [] (of_row item) f e = omega (arith, place_within (place_of item) _ f e, row_place item)
line_place items (b ∷ bookings) (of_row item) f e = omega (arith, place_within 0 (Some LineOutOfOrder) f e)
line_place items bookings (of_booking b) f e = omega (arith, place_is Book b.security _ f e, first_small (1 ∷ 4 ∷ []) b.security (side_byte b.side ∷ b.quantity ∷ []) b.carried)
line_place items bookings (of_deposit r) f e = omega (arith, place_within 0 (Some LineOutOfOrder) f e)
line_place items bookings (of_total r) f e = omega (arith, place_within 0 (Some LineOutOfOrder) f e)
line_place items bookings (of_fault r) f e = omega (arith, place_within 0 (Some LineOutOfOrder) f e)
line_place items bookings (no_frame refusal) f e = omega (arith, place_within 0 (Some refusal) f e)

one_of : (o p : Option Fault) (f : Fault) (n : ℕ) → or_else o p ≡ Some f → (o ≡ Some f → f.place < n) → (p ≡ Some f → f.place < suc n) → f.place < suc n
one_of (Some x) p f n e first last = omega (arith, first e)
one_of None p f n e first last = last e

first_place : (n : ℕ) (rows : Rows) (nets : ℕ → ℤ) (f : Fault) → first_below n (held_fault rows nets) ≡ Some f → f.place < n
unfolding first_below
first_place zero rows nets f e = let z : ◌≡◌ {A = ℕ} 0 1 = cc in absurd (omega arith)
first_place (suc n) rows nets f e =
    one_of (first_below n (held_fault rows nets)) (held_fault rows nets n) f n e (first_place n rows nets f)
    (λ h. omega (arith, place_within n (held_refusal rows nets n) f h))

pub deposit_place : (rows : Rows) (nets : ℕ → ℤ) (f : Fault) → portfolio_fault rows nets ≡ Some f → f.place < security_count
deposit_place rows nets f e = first_place security_count rows nets f e

-- ---- the number of a line

pub refused_fits : (items : Sequence RowRecord) (bookings : Sequence BookingRecord) (line : Sequence ℕ) (later : Sequence (Sequence ℕ)) (f : Fault) (text : Sequence ℕ) → Begins items bookings (line ∷ later) text
    → RefusedAfter items bookings line f → FaultFits (in_line (length items + length bookings + 1) f)
refused_fits items bookings line later f text b refused =
    let rows = map row_frame items in
    let booked = map booking_frame bookings in
    let count : length (lines_of text) ≡ length ((rows ++ booked) ++ line ∷ later) = ap length (lines_are items bookings (line ∷ later) text b.lines b.unbroken) in
    fault_fits f (length items + length bookings + 1)
    (omega (arith, count, lines_few text, b.short, length-append (rows ++ booked) (line ∷ later), length-append rows booked, length-map items row_frame, length-map bookings booking_frame))
    (line_place items bookings refused.0 f refused.2)
