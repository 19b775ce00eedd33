-- What the lines of a text make of a desk. Assumes nothing.
use Rattle.std.specs.Prelude.{◌≡◌, ℕ, ◌+◌, List, [], ◌∷◌, Some, None, Ok, Err, Option, Result}
use Rattle.terms.specs.Refusals.{refused_at}
use Rattle.terms.specs.declared.fault.Fault.{Fault}
use Rattle.lines.specs.Lines.{lines_of}
use Rattle.lines.specs.Texts.{length_refusal}
use Rattle.entries.specs.declared.intake.Intake.{Intake}
use Rattle.entries.specs.Desks.{Desk, line_fault_lem, nothing_taken, with_line}
use Rattle.entries.specs.Intakes.{desk_of}
use Rattle.entries.specs.declared.line_fault.LineFault.{LineFault}

-- a fault with the number of its line
abbrev pub in_line : ℕ → Fault → LineFault
in_line number f = record { line = number; fault = f }

-- a refused line goes before whatever comes later
abbrev pub or_later : Option Fault → ℕ → Result Desk LineFault → Result Desk LineFault
or_later (Some f) number later = Err (in_line number f)
or_later None number later = later

-- the desk after the lines, or the fault of the first that is refused; the first line has this number
abbrev pub after_lines : ℕ → Desk → List (List ℕ) → Result Desk LineFault
after_lines number d [] = Ok d
after_lines number d (line ∷ lines) = or_later (line_fault_lem d line) number (after_lines (number + 1) (with_line d line) lines)

-- what is left of a text's lines: an intake that holds them all, or the fault of the first that is refused
abbrev pub ReadsTo : Result Desk LineFault → Result Intake LineFault → Type 0
ReadsTo defined (Ok i) = defined ≡ Ok (desk_of i)
ReadsTo defined (Err e) = defined ≡ Err e

-- the same of a whole text: one that is too long is refused before its lines, with no line
abbrev pub after_text : List ℕ → Result Desk LineFault
after_text text = or_later (refused_at 0 (length_refusal text)) 0 (after_lines 1 nothing_taken (lines_of text))
