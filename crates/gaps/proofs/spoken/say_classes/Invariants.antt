use Rattle.std.proofs.Common.{drop}
use Rattle.std.specs.Fmt.{IsPlainFormatter}
use Rattle.wording.proofs.Said.{Said}
use Rattle.gaps.specs.Lines.{classes_lines}
use Rattle.gaps.proofs.spoken.say_classes.Given as goal

abbrev pub invariant-loop-number : goal.invariant-loop-number
invariant-loop-number g l =
    IsPlainFormatter l.initial.f → Said g.W.Write.write_str_gives l.initial.f (classes_lines l.number (drop l.number l.classes)) (classes_lines 0 l.classes) l.f
