use Rattle.inspections.proofs.Saying.{read_as}
use Rattle.inspections.proofs.spoken.words_of.Goals as goal

pub returns : goal.returns
returns g c = read_as g.F.Frame.kind g.F.Frame.figures c.args.part.digits.text.now c.in_ok-read_digits.field-0 c.args.part.digits.asked g.met.F.Frame.carried c.in_ok-read_digits.ensures
