use Rattle.std.proofs.Common.{rules}
use Rattle.std.proofs.Output.{has_written_append, has_written_of_eq}
use Rattle.replay.proofs.Beside.{answers_more}
use Rattle.replay.proofs.spoken.AnswersLinesDisplay.fmt.Goals as goal

pub loop-place-preserved : goal.loop-place-preserved
loop-place-preserved g c = λ plain.
    let before = c.loop-place.invariant plain in
    let one = c.fmt.ensures.writes before.plain (search rules) in
    has_written_of_eq _ _ _ _ _ (answers_more _ _ _ _ _ c.loop-place-test.true c.entry.ensures) (has_written_append _ _ _ _ _ _ before one)
