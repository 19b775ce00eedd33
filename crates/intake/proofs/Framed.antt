-- The frame of a record passes the questions put to a line, and brings what the record says. Assumes nothing.
use Rattle.std.proofs.Common.{◌≡◌, true, get_or, Some, None, sym, refl, ap, ◌∙◌}
use Rattle.terms.specs.declared.choice.ClassKind.{ClassKind}
use Rattle.terms.specs.declared.choice.ClassKind.TheVariants.{Liquidity, Duration}
use Rattle.terms.specs.declared.choice.Side.{Side}
use Rattle.terms.specs.declared.choice.Side.TheVariants.{Bought, Sold}
use Rattle.terms.specs.Choices.{class_kind_byte, side_byte, signed}
use Rattle.frames.specs.Choices.{is_choice}
use Rattle.frames.specs.Frames.{line_of, line_refusal}
use Rattle.frames.specs.Kinds.{all_kinds, class_kind, security_kind, pair_kind, booking_kind, deposit_kind, total_kind, fault_kind}
use Rattle.frames.specs.Classes.{class_figures, class_laws}
use Rattle.frames.specs.Securities.{security_figures, security_laws}
use Rattle.frames.specs.Pairs.{pair_figures, pair_laws}
use Rattle.frames.specs.Bookings.{booking_figures, booking_laws}
use Rattle.frames.specs.Deposits.{deposit_figures, deposit_laws}
use Rattle.frames.specs.Totals.{total_figures, total_laws}
use Rattle.frames.specs.Faults.{fault_figures, fault_laws}
use Rattle.frames.specs.declared.kinds.booking.BookingRecord.{BookingRecord}
use Rattle.frames.specs.declared.kinds.deposit.DepositRecord.{DepositRecord}
use Rattle.frames.specs.declared.kinds.fault.FaultRecord.{FaultRecord}
use Rattle.frames.specs.declared.kinds.total.TotalRecord.{TotalRecord}
use Rattle.frames.proofs.Reading.{line_pass}
use Rattle.frames.proofs.Sound.{sound}
use Rattle.frames.specs.Texts.{numbers_text}
use Rattle.entries.specs.Entries.{row_entry, booking_entry, listed_class, listed_security, listed_pair, quantity_of, entry_of}
use Rattle.entries.proofs.Bringing.{class_listed, booking_quantity}
use Rattle.intake.specs.Listings.{RowRecord, class_record, security_record, pair_record, row_frame, booking_frame}
use Rattle.intake.proofs.Listed.{row_of}

pub kind_chosen : (kind : ClassKind) → is_choice (class_kind_byte kind) ≡ true
kind_chosen Liquidity = refl
kind_chosen Duration = refl

pub side_chosen : (side : Side) → is_choice (side_byte side) ≡ true
side_chosen Bought = refl
side_chosen Sold = refl

pub row_passes : (item : RowRecord) → line_refusal all_kinds (row_frame item) ≡ None
row_passes (class_record r) = line_pass class_kind (sound class_kind refl) class_figures (λ x. x.carried) (λ x. kind_chosen x.kind) class_laws.told class_laws.made all_kinds refl r
row_passes (security_record r) = line_pass security_kind (sound security_kind refl) security_figures (λ x. x.carried) (λ x. refl) security_laws.told security_laws.made all_kinds refl r
row_passes (pair_record r) = line_pass pair_kind (sound pair_kind refl) pair_figures (λ x. x.carried) (λ x. refl) pair_laws.told pair_laws.made all_kinds refl r

pub booking_passes : (b : BookingRecord) → line_refusal all_kinds (booking_frame b) ≡ None
booking_passes b = line_pass booking_kind (sound booking_kind refl) booking_figures (λ x. x.carried) (λ x. side_chosen x.side) booking_laws.told booking_laws.made all_kinds refl b

-- the frames of other kinds pass as well, and bring nothing
pub deposit_passes : (r : DepositRecord) → line_refusal all_kinds (line_of deposit_kind (deposit_figures r)) ≡ None
deposit_passes r = line_pass deposit_kind (sound deposit_kind refl) deposit_figures (λ x. x.carried) (λ x. refl) deposit_laws.told deposit_laws.made all_kinds refl r

pub total_passes : (r : TotalRecord) → line_refusal all_kinds (line_of total_kind (total_figures r)) ≡ None
total_passes r = line_pass total_kind (sound total_kind refl) total_figures (λ x. x.carried) (λ x. refl) total_laws.told total_laws.made all_kinds refl r

pub fault_passes : (r : FaultRecord) → line_refusal all_kinds (line_of fault_kind (fault_figures r)) ≡ None
fault_passes r = line_pass fault_kind (sound fault_kind refl) fault_figures (λ x. x.carried) (λ x. refl) fault_laws.told fault_laws.made all_kinds refl r

pub deposit_brings : (r : DepositRecord) → entry_of (line_of deposit_kind (deposit_figures r)) ≡ None
deposit_brings r = refl

pub total_brings : (r : TotalRecord) → entry_of (line_of total_kind (total_figures r)) ≡ None
total_brings r = refl

pub fault_brings : (r : FaultRecord) → entry_of (line_of fault_kind (fault_figures r)) ≡ None
fault_brings r = refl

pub row_brings : (item : RowRecord) → entry_of (row_frame item) ≡ Some (row_entry (row_of item))
row_brings (class_record r) =
    ap (λ n. Some (row_entry (listed_class n))) (numbers_text class_kind.widths (class_figures r) r.carried) ∙ ap (λ row. Some (row_entry row)) (sym (class_listed r))
row_brings (security_record r) = ap (λ n. Some (row_entry (listed_security n))) (numbers_text security_kind.widths (security_figures r) r.carried)
row_brings (pair_record r) = ap (λ n. Some (row_entry (listed_pair n))) (numbers_text pair_kind.widths (pair_figures r) r.carried)

pub booking_brings : (b : BookingRecord) → entry_of (booking_frame b) ≡ Some (booking_entry b.security (signed b.side b.quantity))
booking_brings b =
    ap (λ n. Some (booking_entry (get_or n 0 0) (quantity_of n))) (numbers_text booking_kind.widths (booking_figures b) b.carried)
    ∙ ap (λ q. Some (booking_entry b.security q)) (sym (booking_quantity b))
