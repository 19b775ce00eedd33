use Rattle.std.proofs.Common.{◌≡◌, Err, Ok, sym, ap, ◌∙◌, rules}
use Rattle.std.proofs.lemmas.Result.{err_from_is_err_and}
use Rattle.std.specs.Array.{IsFirstChunk}
use Rattle.terms.specs.Limits.{answer_memory}
use Rattle.lines.specs.Texts.{length_answer}
use Rattle.intake.proofs.Placing.{bytes_answered, count_answered, kept, long_answered}
use Rattle.intake.proofs.Yielding.{yields}
use Rattle.intake.proofs.answer.answer_text.Goals as goal
use Rattle.intake.proofs.answer.answer_text.Goals.{In_ok-front}

first_chunk : (c : In_ok-front) → IsFirstChunk c.args.answer.now c.in_ok-front.front.now answer_memory
first_chunk c = search rules

pub returns-in_err-check_length-clause-memory : goal.returns-in_err-check_length-clause-memory
returns-in_err-check_length-clause-memory c =
    let first = first_chunk (goal.at.returns-in_err-check_length-clause-memory c).In_ok-front in
    kept _ _ first c.args.text.now _ (sym c.check_length.ensures ∙ c.in_err-check_length.was)

pub returns-clause-told : goal.returns-clause-told
returns-clause-told c =
    let first = first_chunk (goal.at.returns-clause-told c).In_ok-front in
    let short : length_answer c.args.text.now ≡ Ok tt = sym c.check_length.ensures ∙ c.in_ok-check_length.was in
    count_answered _ _ first c.args.text.now short _ _ c.write_answer.ensures.fills

pub returns-clause-memory : goal.returns-clause-memory
returns-clause-memory c =
    let first = first_chunk (goal.at.returns-clause-memory c).In_ok-front in
    let short : length_answer c.args.text.now ≡ Ok tt = sym c.check_length.ensures ∙ c.in_ok-check_length.was in
    let w = c.write_answer.ensures in
    bytes_answered _ _ first c.args.text.now short _ _ w.fills w.size

pub returns-in_err-check_length-clause-yields : goal.returns-in_err-check_length-clause-yields
returns-in_err-check_length-clause-yields c =
    let first = first_chunk (goal.at.returns-in_err-check_length-clause-yields c).In_ok-front in
    let long = sym c.check_length.ensures ∙ c.in_err-check_length.was in
    let exit = err_from_is_err_and c.from_residual-in_err-check_length.result c.from_residual-in_err-check_length.ensures.1 in
    yields _ _ _ _ (exit.1 ∙ ap Err exit.2 ∙ long_answered _ _ first c.args.text.now _ long) (kept _ _ first c.args.text.now _ long)

pub returns-clause-yields : goal.returns-clause-yields
returns-clause-yields c =
    let first = first_chunk (goal.at.returns-clause-yields c).In_ok-front in
    let short : length_answer c.args.text.now ≡ Ok tt = sym c.check_length.ensures ∙ c.in_ok-check_length.was in
    let w = c.write_answer.ensures in
    yields _ _ _ _ (count_answered _ _ first c.args.text.now short _ _ w.fills) (bytes_answered _ _ first c.args.text.now short _ _ w.fills w.size)
