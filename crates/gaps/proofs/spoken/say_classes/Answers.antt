use Rattle.std.proofs.Common.{rules, ◌+◌, drop, ap}
use Rattle.std.proofs.lemmas.List.{drop_more}
use Rattle.wording.proofs.Said.{said_more}
use Rattle.gaps.specs.Lines.{classes_lines}
use Rattle.gaps.proofs.spoken.say_classes.Goals as goal

pub loop-number-preserved : goal.loop-number-preserved
loop-number-preserved g c = λ plain.
    let said = c.loop-number.invariant plain in
    let at = c.loop-number.number in
    let classes = c.args.classes.now in
    said_more g.W.Write.write_str_gives c.args.f.now _ _ (classes_lines (at + 1) (drop (at + 1) classes)) _ _ _ (ap (classes_lines at) (drop_more classes at _ c.loop-number-test.true)) said
    (c.say_class.ensures said.wrote.plain (search rules))
