use Rattle.std.proofs.Common.{take}
use Rattle.std.specs.Fmt.{HasWritten, IsPlainFormatter}
use Rattle.std.specs.List.{zip}
use Rattle.replay.specs.Words.{answers_lines}
use Rattle.replay.proofs.spoken.AnswersLinesDisplay.fmt.Given as goal

abbrev pub invariant-loop-place : goal.invariant-loop-place
invariant-loop-place g l =
    IsPlainFormatter l.initial.f → HasWritten g.W.Write.write_str_gives l.initial.f (answers_lines (zip (take l.place l.order-items) l.self.0.now.entries.now)) l.f
