use Rattle.std.proofs.Common.{rules}
use Rattle.std.proofs.Output.{has_written_append, has_written_of_eq}
use Rattle.replay.proofs.Lines.{classes_more}
use Rattle.replay.proofs.told.ClassesLinesDisplay.fmt.Goals as goal

pub loop-number-preserved : goal.loop-number-preserved
loop-number-preserved g c = λ plain.
    let before = c.loop-number.invariant plain in
    let one = c.fmt.ensures.writes before.plain (search rules) in
    has_written_of_eq _ _ _ _ _ (classes_more _ _ _ c.loop-number-test.true) (has_written_append _ _ _ _ _ _ before one)
