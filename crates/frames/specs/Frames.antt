-- A frame as a line of text, and the questions put to a line. Assumes nothing.
use Rattle.std.specs.Prelude.{◌≡◌, ℕ, ◌*◌, ◌%◌, Bool, not, ◌&&◌, ◌||◌, List, ◌++◌, length, take, drop, Some, None, Ok, Option, Result, ◌==◌, nat_le, slice_index}
use Rattle.std.specs.Result.{result_err}
use Rattle.terms.specs.Refusals.{fault_at, refused_at}
use Rattle.terms.specs.declared.fault.Fault.{Fault}
use Rattle.terms.specs.declared.refusal.Refusal.{Refusal}
use Rattle.terms.specs.declared.refusal.Refusal.TheVariants.{NotHexadecimal, UnknownKind, WrongLength, UnknownChoice}
use Rattle.terms.specs.Questions.{ask}
use Rattle.frames.specs.Choices.{is_choice}
use Rattle.frames.specs.Fields.{text_of, bytes}
use Rattle.frames.specs.Hex.{are_digits, number_of, digits_of}
use Rattle.frames.specs.Kinds.{Kind, find_kind}

-- the line of these figures as a frame of this kind
abbrev pub line_of : Kind → List ℕ → List ℕ
line_of k figures = digits_of 2 k.byte ++ text_of k.widths figures

-- whether the figures of a record of this kind have a choice that is known, if they have one
abbrev pub choice_lawful : Kind → List ℕ → Bool
choice_lawful k figures = not k.choice || is_choice (slice_index figures 1)

-- the same of the digits of the fields
abbrev pub choice_known : Kind → List ℕ → Bool
choice_known k fields = not k.choice || is_choice (number_of (take 2 (drop 2 fields)))

-- whether a line is hexadecimal, an even number of digits, two or more
abbrev pub hexadecimal : List ℕ → Bool
hexadecimal line = are_digits line && (length line % 2 == 0 && nat_le 2 (length line))

-- the questions put to the fields of a line of a known kind
abbrev pub fields_refusal : Kind → List ℕ → Option Refusal
fields_refusal k fields =
    ask (length fields == 2 * bytes k.widths) WrongLength
    (ask (choice_known k fields) UnknownChoice
    None)

abbrev pub kind_refusal : Option Kind → List ℕ → Option Refusal
kind_refusal None fields = Some UnknownKind
kind_refusal (Some k) fields = fields_refusal k fields

-- the questions put to a line by a reader that knows these kinds
abbrev pub line_refusal : List Kind → List ℕ → Option Refusal
line_refusal kinds line = ask (hexadecimal line) NotHexadecimal (kind_refusal (find_kind kinds (number_of (take 2 line))) (drop 2 line))

-- the questions put to fields that may be no digits
abbrev pub digits_refusal : Kind → List ℕ → Option Refusal
digits_refusal k fields = ask (are_digits fields) NotHexadecimal (fields_refusal k fields)

-- the fault of a line
abbrev pub frame_fault : Refusal → Fault
frame_fault refusal = fault_at 0 refusal

-- What reading a line tells, where `text` is what is written of a record: a line written of a record reads back as that
-- record, a line that reads as a record is the one written of it, and the first question answered no is told.
pub record Reads {R : Type 0} (text : R → List ℕ) (questions : Option Refusal) (line : List ℕ) (r : Result R Fault) : Type 0 where
  pub back : (x : R) → line ≡ text x → r ≡ Ok x
  pub only : (x : R) → r ≡ Ok x → line ≡ text x
  pub decided : result_err r ≡ refused_at 0 questions
