-- What a line tells of its frame: the kind and the fields, or why it is refused. Assumes nothing.
use Rattle.std.specs.Prelude.{◌≡◌, ℕ, List, take, drop, Some, None, Ok, Err, Result}
use Rattle.terms.specs.Refusals.{refused_at}
use Rattle.terms.specs.declared.fault.Fault.{Fault}
use Rattle.frames.specs.Frames.{kind_refusal, line_refusal}
use Rattle.frames.specs.Hex.{number_of}
use Rattle.frames.specs.Kinds.{Kind, all_kinds, find_kind, class_kind, security_kind, pair_kind, booking_kind, deposit_kind, total_kind, fault_kind}
use Rattle.lines.specs.declared.frame_line.FrameKind.{FrameKind}
use Rattle.lines.specs.declared.frame_line.FrameKind.TheVariants as named
use Rattle.lines.specs.declared.frame_line.FrameLine.{FrameLine}
use Rattle.lines.specs.declared.frame_line.FrameLine.TheVariants.{Class, Security, Pair, Booking, Deposit, Total, Fault as Faulted}
use Rattle.lines.specs.declared.part.Fields.{Fields}

abbrev pub named_kind : FrameKind → Kind
named_kind named.Class = class_kind
named_kind named.Security = security_kind
named_kind named.Pair = pair_kind
named_kind named.Booking = booking_kind
named_kind named.Deposit = deposit_kind
named_kind named.Total = total_kind
named_kind named.Fault = fault_kind

abbrev pub kind_of : FrameLine → Kind
kind_of (Class part) = class_kind
kind_of (Security part) = security_kind
kind_of (Pair part) = pair_kind
kind_of (Booking part) = booking_kind
kind_of (Deposit part) = deposit_kind
kind_of (Total part) = total_kind
kind_of (Faulted part) = fault_kind

abbrev pub part_of : FrameLine → Fields
part_of (Class part) = part
part_of (Security part) = part
part_of (Pair part) = part
part_of (Booking part) = part
part_of (Deposit part) = part
part_of (Total part) = part
part_of (Faulted part) = part

-- what a kind byte and the fields tell
abbrev pub TellsKind : ℕ → Fields → Result FrameLine Fault → Type 0
TellsKind byte part (Ok frame) = (find_kind all_kinds byte ≡ Some (kind_of frame)) × (part_of frame ≡ part) × (kind_refusal (find_kind all_kinds byte) part.digits.text.now ≡ None)
TellsKind byte part (Err f) = Some f ≡ refused_at 0 (kind_refusal (find_kind all_kinds byte) part.digits.text.now)

-- the frame of a line has the line's kind, its fields and its place
pub record Framed (line : List ℕ) (at : ℕ) (frame : FrameLine) : Type 0 where
  pub passes : line_refusal all_kinds line ≡ None
  pub kind : find_kind all_kinds (number_of (take 2 line)) ≡ Some (kind_of frame)
  pub fields : (part_of frame).digits.text.now ≡ drop 2 line
  pub place : (part_of frame).place ≡ at

-- what a line tells: its frame, or the fault of the first question answered no
abbrev pub Tells : List ℕ → ℕ → Result FrameLine Fault → Type 0
Tells line place (Ok frame) = Framed line place frame
Tells line place (Err f) = Some f ≡ refused_at 0 (line_refusal all_kinds line)
