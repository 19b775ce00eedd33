-- What the fields of a frame bring is what their record says. Assumes nothing.
use Rattle.std.proofs.Common.{◌≡◌, ℕ, List, sym, refl, ap, ◌∙◌}
use Rattle.terms.specs.declared.choice.ClassKind.{ClassKind}
use Rattle.terms.specs.declared.choice.ClassKind.TheVariants.{Liquidity, Duration}
use Rattle.terms.specs.declared.choice.Side.{Side}
use Rattle.terms.specs.declared.choice.Side.TheVariants.{Bought, Sold}
use Rattle.terms.specs.Choices.{class_kind_byte, side_byte, signed}
use Rattle.frames.specs.Fields.{numbers_of, text_of}
use Rattle.frames.specs.Kinds.{class_kind, security_kind, pair_kind, booking_kind}
use Rattle.frames.specs.Classes.{class_figures}
use Rattle.frames.specs.Securities.{security_figures}
use Rattle.frames.specs.Pairs.{pair_figures}
use Rattle.frames.specs.Bookings.{booking_figures}
use Rattle.frames.specs.declared.kinds.booking.BookingRecord.{BookingRecord}
use Rattle.frames.specs.declared.kinds.class.ClassRecord.{ClassRecord}
use Rattle.frames.specs.declared.kinds.pair.PairRecord.{PairRecord}
use Rattle.frames.specs.declared.kinds.security.SecurityRecord.{SecurityRecord}
use Rattle.frames.specs.Texts.{numbers_text}
use Rattle.entries.specs.Entries.{of_class, kind_named, side_named, listed_class, quantity_of}

pub kind_back : (kind : ClassKind) → kind_named (class_kind_byte kind) ≡ kind
kind_back Liquidity = refl
kind_back Duration = refl

pub side_back : (side : Side) → side_named (side_byte side) ≡ side
side_back Bought = refl
side_back Sold = refl

pub class_numbers : (fields : List ℕ) (x : ClassRecord) → fields ≡ text_of class_kind.widths (class_figures x) → numbers_of class_kind.widths fields ≡ class_figures x
class_numbers fields x e = ap (numbers_of class_kind.widths) e ∙ numbers_text class_kind.widths (class_figures x) x.carried

pub security_numbers : (fields : List ℕ) (x : SecurityRecord) → fields ≡ text_of security_kind.widths (security_figures x) → numbers_of security_kind.widths fields ≡ security_figures x
security_numbers fields x e = ap (numbers_of security_kind.widths) e ∙ numbers_text security_kind.widths (security_figures x) x.carried

pub pair_numbers : (fields : List ℕ) (x : PairRecord) → fields ≡ text_of pair_kind.widths (pair_figures x) → numbers_of pair_kind.widths fields ≡ pair_figures x
pair_numbers fields x e = ap (numbers_of pair_kind.widths) e ∙ numbers_text pair_kind.widths (pair_figures x) x.carried

pub booking_numbers : (fields : List ℕ) (x : BookingRecord) → fields ≡ text_of booking_kind.widths (booking_figures x) → numbers_of booking_kind.widths fields ≡ booking_figures x
booking_numbers fields x e = ap (numbers_of booking_kind.widths) e ∙ numbers_text booking_kind.widths (booking_figures x) x.carried

-- the row that a class record lists
pub class_listed : (x : ClassRecord) → of_class x.class (record { kind = x.kind; y = x.y; x = x.x; dep = x.dep }) ≡ listed_class (class_figures x)
class_listed x = ap (λ kind. of_class x.class (record { kind = kind; y = x.y; x = x.x; dep = x.dep })) (sym (kind_back x.kind))

pub booking_quantity : (x : BookingRecord) → signed x.side x.quantity ≡ quantity_of (booking_figures x)
booking_quantity x = ap (λ side. signed side x.quantity) (sym (side_back x.side))
