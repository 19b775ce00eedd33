use Rattle.std.proofs.Common.{◌+◌, ◌≤◌, length}
use Rattle.std.specs.Fmt.{IsPlainFormatter}
use Rattle.terms.specs.Limits.{text_limit}
use Rattle.lines.specs.Lines.{lines_left, lines_of, places_left, with_places}
use Rattle.wording.proofs.Said.{Said}
use Rattle.inspections.specs.Words.{numbered_lines}
use Rattle.inspections.proofs.report.say_lines.Given as goal

abbrev pub invariant-loop-number : goal.invariant-loop-number
invariant-loop-number g l =
    (l.number-iterator.a.start + length (lines_left l.number-iterator.b) ≤ 1 + text_limit)
    × (IsPlainFormatter l.initial.f
    → Said g.W.Write.write_str_gives l.initial.f (numbered_lines l.number-iterator.a.start (places_left l.number-iterator.b)) (numbered_lines 1 (with_places 0 (lines_of l.text))) l.f)
