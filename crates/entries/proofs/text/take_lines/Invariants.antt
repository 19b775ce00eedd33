use Rattle.std.proofs.Common.{◌≡◌, ◌+◌, ◌≤◌, length}
use Rattle.terms.specs.Limits.{text_limit}
use Rattle.lines.specs.Lines.{lines_of, lines_left}
use Rattle.entries.specs.Desks.{nothing_taken}
use Rattle.entries.specs.Intakes.{desk_of}
use Rattle.entries.specs.Reading.{after_lines}
use Rattle.entries.proofs.text.take_lines.Given as goal

abbrev pub invariant-loop-line : goal.invariant-loop-line
invariant-loop-line l =
    (after_lines l.line-iterator.a.start (desk_of l.intake) (lines_left l.line-iterator.b) ≡ after_lines 1 nothing_taken (lines_of l.text))
    × (l.line-iterator.a.start + length (lines_left l.line-iterator.b) ≤ 1 + text_limit)
