-- The lines that tell a measure, a class, a match and a refusal, all amounts in zloty. Assumes nothing.
use Rattle.terms.specs.Texts.{◌⧺◌, fed}
use Rattle.std.specs.Prelude.{ℕ, ◌+◌, cond, List, [], ◌∷◌, ◌++◌, min, pos, ◌-ℤ◌, ◌==◌, unsigned_abs, codes, decimal}
use Rattle.terms.specs.declared.fault.Fault.{Fault}
use Rattle.terms.specs.Money.{largest}
use Rattle.deposits.specs.declared.records.ClassMargin.{ClassMargin}
use Rattle.deposits.specs.declared.records.Match.{Match}
use Rattle.deposits.specs.declared.records.Summary.{Summary}
use Rattle.entries.specs.declared.line_fault.LineFault.{LineFault}
use Rattle.entries.specs.LineFaults.{line_fault_words}
use Rattle.measures.specs.Amounts.{exact_amount, signed_exact, thousandths}
use Rattle.measures.specs.declared.record.Measure.{Measure}
use Rattle.wording.specs.Decimals.{amount, left_over, money}

-- PK, PS, CPN and CPB of a class
abbrev pub sums_words : ClassMargin → List ℕ
sums_words class =
    codes "PK " ⧺ amount class.bought.units ⧺ codes ", PS " ⧺ amount class.sold.units
    ⧺ codes ", CPN " ⧺ amount (unsigned_abs (pos class.bought.units -ℤ pos class.sold.units))
    ⧺ codes ", CPB " ⧺ amount (min (class.bought.units + class.sold.units) largest)

-- these, and what is left over of a class
abbrev pub sums_line : ℕ → ClassMargin → List ℕ
sums_line number class = codes "Class " ⧺ decimal number ⧺ codes ": " ⧺ sums_words class ⧺ codes "; left over: " ⧺ left_over class.leftover.net

-- the parts of its deposit
abbrev pub parts_line : ClassMargin → List ℕ
parts_line class =
    codes "  DRR " ⧺ money class.drr.grosz ⧺ codes " + DRS " ⧺ money class.drs.grosz ⧺ codes " + DSWK " ⧺ money class.dswk.grosz
    ⧺ codes " - KSPK " ⧺ money class.kspk.grosz ⧺ codes " = DOLR " ⧺ money class.dolr.grosz

-- what a pair matches
abbrev pub match_line : Match → List ℕ
match_line pair = fed (codes "Classes " ⧺ decimal pair.first ⧺ codes " and " ⧺ decimal pair.second ⧺ codes ": " ⧺ amount pair.matched.units ⧺ codes " matched")

-- C, N and R
abbrev pub held_line : Summary → List ℕ
held_line s =
    codes "Held: classes " ⧺ decimal s.classes ⧺ codes ", securities " ⧺ decimal s.securities ⧺ codes ", pairs " ⧺ decimal s.pairs
    ⧺ codes ". All amounts are in zloty."

-- the deposit
abbrev pub deposit_line : Measure → List ℕ
deposit_line measure = codes "The deposit told:     " ⧺ money measure.summary.dspan.grosz ⧺ codes " zloty"

-- the exact margin
abbrev pub exact_line : Measure → List ℕ
exact_line measure = codes "The exact margin:     " ⧺ signed_exact measure.exact ⧺ codes " zloty"

abbrev pub margin_lines : Measure → List ℕ
margin_lines measure = fed (deposit_line measure) ⧺ fed (exact_line measure)

-- the gap between them, how large it may be, and what is held
unfoldable pub gap_lines : Measure → List ℕ
gap_lines measure =
    fed (codes "The gap between them: " ⧺ exact_amount measure.gap ⧺ codes " zloty")
    ⧺ fed (codes "Proved to be at most: " ⧺ thousandths measure.bound ⧺ codes " zloty")
    ⧺ fed (held_line measure.summary)

-- a class, if it is held
abbrev pub class_lines : ℕ → ClassMargin → List ℕ
class_lines number class = cond class.held (fed (sums_line number class) ⧺ fed (parts_line class)) []

-- classes in their order, the first of this number
abbrev pub classes_lines : ℕ → List ClassMargin → List ℕ
classes_lines number [] = []
classes_lines number (class ∷ classes) = class_lines number class ++ classes_lines (number + 1) classes

-- matches in their order
abbrev pub matches_lines : List Match → List ℕ
matches_lines [] = []
matches_lines (pair ∷ pairs) = match_line pair ++ matches_lines pairs

-- all that is measured: the two margins, the gap, each held class, and what each pair matches
abbrev pub measure_lines : Measure → List ClassMargin → List Match → List ℕ
measure_lines measure classes matches = margin_lines measure ⧺ gap_lines measure ⧺ classes_lines 0 classes ⧺ matches_lines matches

-- why a deposit is refused
abbrev pub deposit_refused : Fault → List ℕ
deposit_refused fault = fed (codes "The deposit is refused.") ⧺ fed (line_fault_words (record { line = 0; fault = fault }) ⧺ codes ".")

-- what is refused, where line 0 is no line
abbrev pub what_is_refused_lem : ℕ → List ℕ
what_is_refused_lem line = cond (line == 0) (codes "The text is refused.") (codes "A line is refused, and nothing is worked out.")

-- why a text or one of its lines is refused
abbrev pub text_refused : LineFault → List ℕ
text_refused refused = fed (what_is_refused_lem refused.line) ⧺ fed (line_fault_words refused ⧺ codes ".")
