use Rattle.std.proofs.Common.{◌≡◌, false, Err, ap, ◌∙◌}
use Rattle.std.proofs.lemmas.Result.{err_from_is_err_and}
use Rattle.terms.specs.declared.refusal.Refusal.TheVariants.{NotHexadecimal}
use Rattle.terms.specs.Questions.{ask}
use Rattle.frames.specs.Frames.{fields_refusal, frame_fault}
use Rattle.frames.specs.Hex.{are_digits}
use Rattle.frames.proofs.Reading.{fields_refused}
use Rattle.frames.proofs.Sound.{sound_listed}
use Rattle.frames.proofs.codec.read_fields.Goals as goal

pub returns-in_err-digits : goal.returns-in_err-digits
returns-in_err-digits g c =
    let frame = g.F.Frame in
    let laws = g.met.F.Frame in
    let fields = c.args.fields.now in
    let exit = err_from_is_err_and c.from_residual.result c.from_residual.ensures.1 in
    let told : (are_digits fields ≡ false) × (c.in_err-digits.field-0.0 ≡ frame_fault NotHexadecimal) = c.in_err-digits.ensures in
    fields_refused frame.kind (sound_listed _ laws.listed) frame.figures laws.carried laws.chosen laws.told laws.made fields NotHexadecimal _ (exit.1 ∙ ap Err (exit.2 ∙ told.1))
    (ap (λ b. ask b NotHexadecimal (fields_refusal frame.kind fields)) told.0)
