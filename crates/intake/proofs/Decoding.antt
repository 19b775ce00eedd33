-- Each line is the frame of one record, or no frame, and no record has the line of another. Assumes nothing.
use Rattle.std.proofs.Common.{◌≡◌, ℕ, List, take, drop, Some, None, Option, sym, refl, ap, ◌∙◌, arith}
use Rattle.std.specs.List.{AllByRecursion}
use Rattle.terms.specs.declared.refusal.Refusal.{Refusal}
use Rattle.terms.specs.declared.refusal.Refusal.TheVariants.{NotHexadecimal}
use Rattle.terms.proofs.Answered.{asked}
use Rattle.frames.specs.Frames.{hexadecimal, kind_refusal, line_refusal}
use Rattle.frames.specs.Hex.{number_of}
use Rattle.frames.specs.Kinds.{Kind, all_kinds, find_kind, class_kind, security_kind, pair_kind, booking_kind, deposit_kind, total_kind, fault_kind}
use Rattle.frames.specs.Classes.{class_figures, class_laws}
use Rattle.frames.specs.Securities.{security_figures, security_laws}
use Rattle.frames.specs.Pairs.{pair_figures, pair_laws}
use Rattle.frames.specs.Bookings.{booking_figures, booking_laws}
use Rattle.frames.specs.Deposits.{deposit_figures, deposit_laws}
use Rattle.frames.specs.Totals.{total_figures, total_laws}
use Rattle.frames.specs.Faults.{fault_figures, fault_laws}
use Rattle.frames.specs.declared.kinds.booking.BookingRecord.{BookingRecord}
use Rattle.frames.proofs.Reading.{line_made, whole_told}
use Rattle.frames.proofs.Sound.{found, sound}
use Rattle.intake.specs.Listings.{RowRecord, class_record, security_record, pair_record, row_frame, booking_frame}
use Rattle.intake.specs.Readings.{LineRead, of_row, of_booking, of_deposit, of_total, of_fault, no_frame, IsLine}
use Rattle.intake.proofs.Framed.{kind_chosen, side_chosen}

-- ---- what a line is

module _ (line : List ℕ) where
  abbrev Decoded : Type 0
  Decoded = (what : LineRead) × IsLine what line

  module _ (passes : line_refusal all_kinds line ≡ None) where
    abbrev Decodes : Kind → Type 0
    Decodes k = find_kind all_kinds (number_of (take 2 line)) ≡ Some k → Decoded

    class_line_read : Decodes class_kind
    class_line_read known = let x = line_made class_kind (sound class_kind refl) class_figures (λ x. x.carried) (λ x. kind_chosen x.kind) class_laws.told class_laws.made all_kinds refl line passes known in (of_row (class_record x.0), x.1)

    security_line_read : Decodes security_kind
    security_line_read known = let x = line_made security_kind (sound security_kind refl) security_figures (λ x. x.carried) (λ x. refl) security_laws.told security_laws.made all_kinds refl line passes known in (of_row (security_record x.0), x.1)

    pair_line_read : Decodes pair_kind
    pair_line_read known = let x = line_made pair_kind (sound pair_kind refl) pair_figures (λ x. x.carried) (λ x. refl) pair_laws.told pair_laws.made all_kinds refl line passes known in (of_row (pair_record x.0), x.1)

    booking_line_read : Decodes booking_kind
    booking_line_read known = let x = line_made booking_kind (sound booking_kind refl) booking_figures (λ x. x.carried) (λ x. side_chosen x.side) booking_laws.told booking_laws.made all_kinds refl line passes known in (of_booking x.0, x.1)

    deposit_line_read : Decodes deposit_kind
    deposit_line_read known = let x = line_made deposit_kind (sound deposit_kind refl) deposit_figures (λ x. x.carried) (λ x. refl) deposit_laws.told deposit_laws.made all_kinds refl line passes known in (of_deposit x.0, x.1)

    total_line_read : Decodes total_kind
    total_line_read known = let x = line_made total_kind (sound total_kind refl) total_figures (λ x. x.carried) (λ x. refl) total_laws.told total_laws.made all_kinds refl line passes known in (of_total x.0, x.1)

    fault_line_read : Decodes fault_kind
    fault_line_read known = let x = line_made fault_kind (sound fault_kind refl) fault_figures (λ x. x.carried) (λ x. refl) fault_laws.told fault_laws.made all_kinds refl line passes known in (of_fault x.0, x.1)

    all_read : AllByRecursion Decodes all_kinds
    all_read = (class_line_read, (security_line_read, (pair_line_read, (booking_line_read, (deposit_line_read, (total_line_read, (fault_line_read, tt)))))))

    by_kind : (o : Option Kind) → find_kind all_kinds (number_of (take 2 line)) ≡ o → Decoded
    by_kind (Some k) e = found Decodes all_kinds all_read (number_of (take 2 line)) k e e
    by_kind None e =
        let known = asked (hexadecimal line) (kind_refusal (find_kind all_kinds (number_of (take 2 line))) (drop 2 line)) NotHexadecimal passes in
        let none = sym (ap (λ o. kind_refusal o (drop 2 line)) e) ∙ known.1 in
        let z : ◌≡◌ {A = ℕ} 0 1 = cc in absurd (omega arith)

  by_refusal : (o : Option Refusal) → line_refusal all_kinds line ≡ o → Decoded
  by_refusal (Some refusal) e = (no_frame refusal, e)
  by_refusal None e = by_kind e (find_kind all_kinds (number_of (take 2 line))) refl

  pub decoded : Decoded
  decoded = by_refusal (line_refusal all_kinds line) refl

-- ---- no two records have one line

-- kind bytes apart
apart : {A : Type 0} (a b : List ℕ) → a ≡ b → (number_of (take 2 a) ≡ number_of (take 2 b) → ⊥) → A
apart a b e h = absurd (h (ap (λ l. number_of (take 2 l)) e))

pub row_told : (x y : RowRecord) → row_frame x ≡ row_frame y → x ≡ y
row_told (class_record r) (class_record s) e =
    ap class_record (whole_told class_kind (sound class_kind refl) class_figures (λ x. x.carried) (λ x. kind_chosen x.kind) class_laws.told class_laws.made all_kinds refl r s e)
row_told (class_record r) (security_record s) e = apart _ _ e (λ h. omega arith)
row_told (class_record r) (pair_record s) e = apart _ _ e (λ h. omega arith)
row_told (security_record r) (class_record s) e = apart _ _ e (λ h. omega arith)
row_told (security_record r) (security_record s) e =
    ap security_record (whole_told security_kind (sound security_kind refl) security_figures (λ x. x.carried) (λ x. refl) security_laws.told security_laws.made all_kinds refl r s e)
row_told (security_record r) (pair_record s) e = apart _ _ e (λ h. omega arith)
row_told (pair_record r) (class_record s) e = apart _ _ e (λ h. omega arith)
row_told (pair_record r) (security_record s) e = apart _ _ e (λ h. omega arith)
row_told (pair_record r) (pair_record s) e =
    ap pair_record (whole_told pair_kind (sound pair_kind refl) pair_figures (λ x. x.carried) (λ x. refl) pair_laws.told pair_laws.made all_kinds refl r s e)

pub booking_told_by : (x y : BookingRecord) → booking_frame x ≡ booking_frame y → x ≡ y
booking_told_by x y e = whole_told booking_kind (sound booking_kind refl) booking_figures (λ x. x.carried) (λ x. side_chosen x.side) booking_laws.told booking_laws.made all_kinds refl x y e

-- and no booking that of a row
pub row_no_booking : (b : BookingRecord) (item : RowRecord) → booking_frame b ≡ row_frame item → ⊥
row_no_booking b (class_record r) e = apart _ _ e (λ h. omega arith)
row_no_booking b (security_record r) e = apart _ _ e (λ h. omega arith)
row_no_booking b (pair_record r) e = apart _ _ e (λ h. omega arith)
