use Rattle.std.proofs.Common.{cond, [], ◌∷◌, take, drop, Some, None, Err, sym, refl, ap, ◌∙◌}
use Rattle.std.proofs.lemmas.Result.{err_from_is_err_and}
use Rattle.std.proofs.lemmas.Bool.{eq-eqb}
use Rattle.terms.specs.declared.refusal.Refusal.TheVariants.{NotHexadecimal}
use Rattle.terms.specs.Questions.{ask}
use Rattle.frames.specs.Frames.{kind_refusal}
use Rattle.frames.specs.Hex.{number_of}
use Rattle.frames.specs.Kinds.{find_kind}
use Rattle.frames.proofs.Reading.{line_refused, line_reads}
use Rattle.frames.proofs.Sound.{sound_listed}
use Rattle.frames.proofs.codec.read.Goals as goal

pub returns-in_err-kind : goal.returns-in_err-kind
returns-in_err-kind g c =
    let frame = g.F.Frame in
    let laws = g.met.F.Frame in
    let line = c.args.line.now in
    let kinds = frame.kind ∷ [] in
    let known = ap (λ b. cond b (Some frame.kind) None) (eq-eqb frame.kind.byte frame.kind.byte refl) in
    let exit = err_from_is_err_and c.from_residual.result c.from_residual.ensures.1 in
    let told = c.in_err-kind.ensures in
    line_refused frame.kind (sound_listed _ laws.listed) frame.figures laws.carried laws.chosen laws.told laws.made kinds known line NotHexadecimal _ (exit.1 ∙ ap Err (exit.2 ∙ told.1))
    (ap (λ b. ask b NotHexadecimal (kind_refusal (find_kind kinds (number_of (take 2 line))) (drop 2 line))) told.0)

pub returns : goal.returns
returns g c =
    let frame = g.F.Frame in
    let laws = g.met.F.Frame in
    let line = c.args.line.now in
    let kinds = frame.kind ∷ [] in
    let known = ap (λ b. cond b (Some frame.kind) None) (eq-eqb frame.kind.byte frame.kind.byte refl) in
    let told = c.in_ok-kind.ensures in
    line_reads frame.kind (sound_listed _ laws.listed) frame.figures laws.carried laws.chosen laws.told laws.made kinds known line c.in_ok-kind.digits.text.now told.0
    (sym laws.shaped.of_byte ∙ sym c.KIND.ensures ∙ sym c.if-kind-KIND.false ∙ told.1) told.2 c.read_digits.result c.read_digits.ensures
