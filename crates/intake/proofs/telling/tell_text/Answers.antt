use Rattle.std.proofs.Common.{rules}
use Rattle.std.specs.Array.{IsFirstChunk}
use Rattle.intake.proofs.Placing.{count_placed, lines_placed}
use Rattle.intake.proofs.Yielding.{tells}
use Rattle.terms.specs.Limits.{answer_memory}
use Rattle.intake.proofs.telling.tell_text.Goals as goal

pub returns-clause-told : goal.returns-clause-told
returns-clause-told c =
    let first : IsFirstChunk c.args.answer.now c.in_ok-front.front.now answer_memory = search rules in
    count_placed _ _ first c.args.text.now _ _ c.write_answer.ensures.fills

pub returns-clause-memory : goal.returns-clause-memory
returns-clause-memory c =
    let first : IsFirstChunk c.args.answer.now c.in_ok-front.front.now answer_memory = search rules in
    let w = c.write_answer.ensures in
    lines_placed _ _ first c.args.text.now _ _ w.fills w.size

pub returns-clause-yields : goal.returns-clause-yields
returns-clause-yields c =
    let first : IsFirstChunk c.args.answer.now c.in_ok-front.front.now answer_memory = search rules in
    let w = c.write_answer.ensures in
    tells _ _ _ _ (count_placed _ _ first c.args.text.now _ _ w.fills) (lines_placed _ _ first c.args.text.now _ _ w.fills w.size)
