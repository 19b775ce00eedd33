use Rattle.std.proofs.Common.{◌≡◌, true, Err, ap, ◌∙◌}
use Rattle.std.proofs.lemmas.Bool.{some_since}
use Rattle.std.proofs.lemmas.Option.{MatchOption-at_some}
use Rattle.std.proofs.lemmas.Result.{err_from_is_err_and}
use Rattle.terms.proofs.Answered.{answer_ok, answer_err}
use Rattle.terms.specs.declared.refusal.Refusal.TheVariants.{NotHexadecimal}
use Rattle.terms.specs.Questions.{ask}
use Rattle.frames.specs.Frames.{fields_refusal}
use Rattle.frames.specs.Hex.{are_digits}
use Rattle.frames.proofs.Reading.{fields_refused, fields_made, fields_accepted}
use Rattle.frames.proofs.Sound.{sound_listed}
use Rattle.frames.proofs.codec.read_digits.Goals as goal

pub returns-in_err-check : goal.returns-in_err-check
returns-in_err-check g c =
    let frame = g.F.Frame in
    let laws = g.met.F.Frame in
    let fields = c.args.digits.text.now in
    let digits : are_digits fields ≡ true = c.args.digits.asked in
    let exit = err_from_is_err_and c.from_residual.result c.from_residual.ensures.1 in
    let told = answer_err _ _ (fields_refusal frame.kind fields) _ c.in_err-check.ensures in
    fields_refused frame.kind (sound_listed _ laws.listed) frame.figures laws.carried laws.chosen laws.told laws.made fields told.0 _ (exit.1 ∙ ap Err (exit.2 ∙ told.2))
    (ap (λ b. ask b NotHexadecimal (fields_refusal frame.kind fields)) digits ∙ told.1)

pub unwrap-requires : goal.unwrap-requires
unwrap-requires g c =
    let frame = g.F.Frame in
    let laws = g.met.F.Frame in
    let fields = c.args.digits.text.now in
    let digits : are_digits fields ≡ true = c.args.digits.asked in
    some_since c.«record».result _ _ c.«record».ensures
    (fields_made frame.kind (sound_listed _ laws.listed) frame.figures laws.carried laws.chosen laws.told laws.made fields digits
    (answer_ok _ _ _ (fields_refusal frame.kind fields) c.in_ok-check.ensures))

pub returns : goal.returns
returns g c =
    let frame = g.F.Frame in
    let laws = g.met.F.Frame in
    let fields = c.args.digits.text.now in
    let digits : are_digits fields ≡ true = c.args.digits.asked in
    fields_accepted frame.kind (sound_listed _ laws.listed) frame.figures laws.carried laws.chosen laws.told laws.made fields digits
    (answer_ok _ _ _ (fields_refusal frame.kind fields) c.in_ok-check.ensures)
    c.unwrap.result (MatchOption-at_some _ _ _ c.unwrap.ensures c.«record».ensures)
