-- What a text, its lines and its frames are told as, in plain words and human units. Assumes nothing.
use Prim.Native.String.{String}
use Rattle.terms.specs.Texts.{◌⧺◌, fed}
use Rattle.std.specs.Prelude.{ℕ, ◌+◌, cond, List, [], ◌∷◌, ◌++◌, drop, take, Some, None, Ok, Err, Option, Result, ◌==◌, codes, decimal, slice_index}
use Rattle.terms.specs.declared.fault.Fault.{Fault}
use Rattle.terms.specs.declared.layer.Layer.TheVariants.{WholeText}
use Rattle.terms.specs.declared.choice.ClassKind.TheVariants.{Liquidity, Duration}
use Rattle.terms.specs.declared.choice.Side.TheVariants.{Bought, Sold}
use Rattle.terms.specs.declared.refusal.Refusal.{Refusal}
use Rattle.terms.specs.Choices.{class_kind_byte, class_kind_words, side_byte, side_words}
use Rattle.terms.specs.Numbers.{layer_number, layer_words}
use Rattle.terms.specs.Refusals.{refusal_number, refusal_words}
use Rattle.frames.specs.Fields.{numbers_of}
use Rattle.frames.specs.Frames.{fields_refusal, line_refusal}
use Rattle.frames.specs.Hex.{number_of}
use Rattle.frames.specs.Kinds.{Kind, all_kinds, find_kind, class_kind, security_kind, pair_kind, booking_kind, deposit_kind, total_kind}
use Rattle.lines.specs.declared.frame_line.FrameLine.{FrameLine}
use Rattle.lines.specs.FrameLines.{kind_of, part_of}
use Rattle.lines.specs.Lines.{Placed, lines_of, with_places}
use Rattle.lines.specs.Texts.{length_refusal}
use Rattle.inspections.specs.declared.totals.Totals.{Totals}
use Rattle.inspections.specs.Named.{in_brackets, layer_named, refusal_named}
use Rattle.inspections.specs.Sums.{totals_of}
use Rattle.wording.specs.Decimals.{duration, money, percent, price}

abbrev pub kind_words : ℕ → List ℕ
kind_words byte = cond (byte == class_kind_byte Liquidity) (class_kind_words Liquidity) (class_kind_words Duration)

abbrev pub bought_or_sold : ℕ → List ℕ
bought_or_sold byte = cond (byte == side_byte Bought) (side_words Bought) (side_words Sold)

-- C: class, kind of class, y, x, dep
abbrev pub class_words : List ℕ → List ℕ
class_words n =
    codes "class " ⧺ decimal (slice_index n 0) ⧺ codes ", " ⧺ kind_words (slice_index n 1) ⧺ codes ", y " ⧺ percent (slice_index n 2)
    ⧺ codes ", x " ⧺ percent (slice_index n 3) ⧺ codes ", dep " ⧺ percent (slice_index n 4)

-- S: security, class, price, rate, duration
abbrev pub security_words : List ℕ → List ℕ
security_words n =
    codes "security " ⧺ decimal (slice_index n 0) ⧺ codes " of class " ⧺ decimal (slice_index n 1) ⧺ codes ", price " ⧺ price (slice_index n 2)
    ⧺ codes ", rate " ⧺ price (slice_index n 3) ⧺ codes ", duration " ⧺ duration (slice_index n 4)

-- P: two classes, crt
abbrev pub pair_words : List ℕ → List ℕ
pair_words n =
    codes "pair of classes " ⧺ decimal (slice_index n 0) ⧺ codes " and " ⧺ decimal (slice_index n 1) ⧺ codes ", credit " ⧺ percent (slice_index n 2)

-- B: security, side, quantity
abbrev pub booking_words : List ℕ → List ℕ
booking_words n =
    codes "booking of security " ⧺ decimal (slice_index n 0) ⧺ codes ", " ⧺ bought_or_sold (slice_index n 1) ⧺ codes " " ⧺ decimal (slice_index n 2)

-- D: class, DRR, DRS, DSWK, KSPK, DOLR
abbrev pub deposit_words : List ℕ → List ℕ
deposit_words n =
    codes "deposit of class " ⧺ decimal (slice_index n 0) ⧺ codes " in zloty: DRR " ⧺ money (slice_index n 1) ⧺ codes ", DRS " ⧺ money (slice_index n 2)
    ⧺ codes ", DSWK " ⧺ money (slice_index n 3) ⧺ codes ", KSPK " ⧺ money (slice_index n 4) ⧺ codes ", DOLR " ⧺ money (slice_index n 5)

-- T: C, N, R, DSPAN
abbrev pub total_words : List ℕ → List ℕ
total_words n =
    codes "total: DSPAN " ⧺ money (slice_index n 3) ⧺ codes " zloty, held classes " ⧺ decimal (slice_index n 0)
    ⧺ codes ", securities " ⧺ decimal (slice_index n 1) ⧺ codes ", pairs " ⧺ decimal (slice_index n 2)

-- F: number, layer, line, place
abbrev pub fault_words : List ℕ → List ℕ
fault_words n =
    codes "fault: refusal " ⧺ decimal (slice_index n 0) ⧺ in_brackets refusal_words (refusal_named (slice_index n 0))
    ⧺ codes ", layer " ⧺ decimal (slice_index n 1) ⧺ in_brackets layer_words (layer_named (slice_index n 1))
    ⧺ codes ", line " ⧺ decimal (slice_index n 2) ⧺ codes ", place " ⧺ decimal (slice_index n 3)

-- a frame, by its kind byte and what its fields read as
unfoldable pub frame_words : ℕ → List ℕ → List ℕ
frame_words byte n =
    cond (byte == class_kind.byte) (class_words n)
    (cond (byte == security_kind.byte) (security_words n)
    (cond (byte == pair_kind.byte) (pair_words n)
    (cond (byte == booking_kind.byte) (booking_words n)
    (cond (byte == deposit_kind.byte) (deposit_words n)
    (cond (byte == total_kind.byte) (total_words n)
    (fault_words n))))))

-- the words, and others where fields are refused
abbrev pub unless_refused : Option Refusal → List ℕ → List ℕ
unless_refused (Some refusal) words = codes "not a frame"
unless_refused None words = words

-- what a frame of a text is told as
abbrev pub spoken_words : FrameLine → List ℕ
spoken_words frame =
    let kind = kind_of frame in
    let fields = (part_of frame).digits.text.now in
    unless_refused (fields_refusal kind fields) (frame_words kind.byte (numbers_of kind.widths fields))

-- a refusal by its number and its words
abbrev pub numbered_words : Refusal → List ℕ
numbered_words refusal = decimal (refusal_number refusal) ⧺ codes ": " ⧺ refusal_words refusal

-- what a line is, by its frame or its fault
abbrev pub what_words : Result FrameLine Fault → List ℕ
what_words (Ok frame) = spoken_words frame
what_words (Err fault) = codes "refused with " ⧺ numbered_words fault.refusal

-- why a line is refused, or else what frame it is
abbrev pub told_words : Option Refusal → Option Kind → List ℕ → List ℕ
told_words (Some refusal) kind fields = codes "refused with " ⧺ numbered_words refusal
told_words None (Some kind) fields = frame_words kind.byte (numbers_of kind.widths fields)
told_words None None fields = []

-- the same of the bytes of a line
unfoldable pub line_words : List ℕ → List ℕ
line_words line = told_words (line_refusal all_kinds line) (find_kind all_kinds (number_of (take 2 line))) (drop 2 line)

-- a line by its number and its place, and what it is
abbrev pub numbered_line : ℕ → ℕ → List ℕ → List ℕ
numbered_line number place what = codes "line " ⧺ decimal number ⧺ codes ", byte " ⧺ decimal place ⧺ codes ": " ⧺ what

-- lines in their order, the first of this number
abbrev pub numbered_lines : ℕ → List Placed → List ℕ
numbered_lines number [] = []
numbered_lines number (part ∷ parts) = fed (numbered_line number part.place (line_words part.line)) ++ numbered_lines (number + 1) parts

-- how many there are of what
abbrev pub total_line : String → ℕ → List ℕ
total_line what count = codes what ⧺ codes ": " ⧺ decimal count

-- how many lines are rows and bookings
unfoldable pub rows_words : Totals → List ℕ
rows_words t =
    fed (total_line "lines" t.lines)
    ⧺ fed (total_line "class rows" t.classes)
    ⧺ fed (total_line "security rows" t.securities)
    ⧺ fed (total_line "pairs" t.pairs)
    ⧺ fed (total_line "bookings" t.bookings)

-- how many are answers, and how many are refused
unfoldable pub answers_words : Totals → List ℕ
answers_words t =
    fed (total_line "class deposits" t.deposits)
    ⧺ fed (total_line "totals" t.totals)
    ⧺ fed (total_line "faults" t.faults)
    ⧺ fed (total_line "refused" t.refused)

abbrev pub totals_words : Totals → List ℕ
totals_words t = rows_words t ⧺ answers_words t

-- one line where a text is refused as a whole; else its lines, numbered from 1, and then the totals
abbrev pub whole_words : Option Refusal → List (List ℕ) → List ℕ
whole_words (Some refusal) lines = fed (fault_words (refusal_number refusal ∷ layer_number WholeText ∷ 0 ∷ 0 ∷ []))
whole_words None lines = numbered_lines 1 (with_places 0 lines) ⧺ totals_words (totals_of lines)

-- all that is said of a text
abbrev pub report_words : List ℕ → List ℕ
report_words text = whole_words (length_refusal text) (lines_of text)
