use Rattle.std.proofs.Common.{ℕ, List, take, subst}
use Rattle.std.proofs.lemmas.Result.{on_ok_weaker}
use Rattle.std.proofs.Math.ListN.{replicate}
use Rattle.std.specs.Io.KnownBytes.{Appends}
use Rattle.intake.specs.Yields.{YieldsFrames}
use Rattle.terms.specs.Limits.{answer_memory}
use Rattle.margins.proofs.Cut.{answers}
use Rattle.margins.proofs.answer.Goals as goal

pub returns-in-Ok : goal.returns-in-Ok
returns-in-Ok g c =
    let count = c.in-Ok.count in
    let after = c.tell_text.new.answer in
    let memory : List ℕ = replicate answer_memory 0 in
    let yields : YieldsFrames c.in_ok-text.text.items memory count after = subst (λ text. YieldsFrames text memory count after) c.as_slice.ensures.value c.in-Ok.ensures.yields.1 in
    on_ok_weaker c.write_all.result
    (λ (appends : Appends (g.W.Write.contents c.args.output.now) (g.W.Write.contents c.write_all.new.self) (take count after)).
    answers (g.R.Read.remaining c.args.input) _ _ _ _ _ _ c.in_ok-text.ensures.front yields appends)
    c.write_all.ensures.bytes
