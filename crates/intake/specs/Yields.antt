-- What a call yields: the one reading of its text, and the frames that this reading asks for. Assumes nothing.
use Rattle.std.specs.Prelude.{◌≡◌, ℕ, ◌+◌, ◌<◌, ◌≤◌, true, ◌⊎◌, List, [], ◌∷◌, length, ℤ, pos, ◌≤ℤ◌, Ok, Err, Result}
use Rattle.terms.specs.declared.fault.Fault.{Fault}
use Rattle.terms.specs.Limits.{answer_memory, class_count, text_limit}
use Rattle.frames.specs.Fields.{carries}
use Rattle.frames.specs.Kinds.{deposit_kind, fault_kind, total_kind}
use Rattle.rules.specs.Rows.{Rows}
use Rattle.rules.specs.Margin.{rounded, net_value, matches, leftovers, DOLR, DSPAN}
use Rattle.rules.specs.Laws.{Accurate, Matched}
use Rattle.entries.specs.declared.line_fault.LineFault.{LineFault}
use Rattle.entries.specs.Reading.{in_line}
use Rattle.intake.specs.Answering.{class_told, fault_line, fault_told, margin_lines, memory_too_short, text_too_long, told_in_c, total_told}
use Rattle.intake.specs.Filling.{Fills}
use Rattle.intake.specs.Listings.{sheet_of, nets_of}
use Rattle.intake.specs.Readings.{Reading, too_long, line_refused, deposit_refused, deposit_told, IsReading}

-- What holds of the deposit that is told: it is as near to the exact margin as the roundings allow, its matches and leftovers make up
-- the net values, no class owes less than nothing, and each figure fits its field, so that no digit is lost.
pub record MarginYielded (rows : Rows) (nets : ℕ → ℤ) : Type 0 where
  pub accurate : Accurate rows nets (DSPAN rounded rows nets)
  pub matched : Matched (net_value rounded rows nets) rows.pairs (matches (net_value rounded rows nets) rows.pairs) (leftovers (net_value rounded rows nets) rows.pairs)
  pub owed : (c : ℕ) → pos 0 ≤ℤ DOLR rounded rows nets c
  pub classes_fit : (c : ℕ) → c < class_count → carries deposit_kind.widths (class_told rows nets c) ≡ true
  pub total_fits : carries total_kind.widths (total_told rows nets) ≡ true

-- the lines that a reading asks for: one F frame alone, or the frames of the deposit of the summed nets over exactly these rows
abbrev pub lines_for : Reading → List (List ℕ)
lines_for too_long = fault_line (in_line 0 text_too_long) ∷ []
lines_for (line_refused items bookings line later f) = fault_line (in_line (length items + length bookings + 1) f) ∷ []
lines_for (deposit_refused items bookings f) = fault_line (in_line 0 f) ∷ []
lines_for (deposit_told items bookings) = margin_lines (sheet_of items) (nets_of bookings)

-- each figure of an F frame fits its field
abbrev pub FaultFits : LineFault → Type 0
FaultFits e = carries fault_kind.widths (fault_told e) ≡ true

-- what holds of them
abbrev pub LawsFor : Reading → Type 0
LawsFor too_long = FaultFits (in_line 0 text_too_long)
LawsFor (line_refused items bookings line later f) = FaultFits (in_line (length items + length bookings + 1) f)
LawsFor (deposit_refused items bookings f) = FaultFits (in_line 0 f)
LawsFor (deposit_told items bookings) = MarginYielded (sheet_of items) (nets_of bookings)

-- a text has one reading and no other
pub record ReadAs (text : List ℕ) : Type 0 where
  pub reading : Reading
  pub is : IsReading reading text
  pub only : (other : Reading) → IsReading other text → other ≡ reading
  pub laws : LawsFor reading

-- the lines that it asks for, each with its feed, are so many bytes at the front of the memory, and nothing else of it changes
abbrev pub YieldsFrames : List ℕ → List ℕ → ℕ → List ℕ → Type 0
YieldsFrames text before count after = (read : ReadAs text) × Fills (lines_for read.reading) before count after

-- a call is answered where there is memory for the longest answer and the text is short enough; else it says which is not so, and
-- nothing changes
abbrev pub YieldsMargin : List ℕ → List ℕ → Result ℕ Fault → List ℕ → Type 0
YieldsMargin text before (Ok count) after = (answer_memory ≤ length before) × (length text ≤ text_limit) × YieldsFrames text before count after
YieldsMargin text before (Err f) after =
    (after ≡ before)
    × (((f ≡ memory_too_short) × (length before < answer_memory))
    ⊎ ((f ≡ text_too_long) × (answer_memory ≤ length before) × (text_limit < length text)))

-- the same of the call of a program, which answers a text that is too long as well
abbrev pub TellsMargin : List ℕ → List ℕ → Result ℕ Fault → List ℕ → Type 0
TellsMargin text before (Ok count) after = (answer_memory ≤ length before) × YieldsFrames text before count after
TellsMargin text before (Err f) after = (after ≡ before) × (f ≡ memory_too_short) × (length before < answer_memory)

-- and of the call that C makes, which is told a count or less than nothing
abbrev pub YieldsInC : List ℕ → List ℕ → ℤ → List ℕ → Type 0
YieldsInC text before r after = (answered : Result ℕ Fault) × (r ≡ told_in_c answered) × YieldsMargin text before answered after
