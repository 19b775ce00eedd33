use Rattle.std.proofs.Common.{rules, ◌≡◌, [], ◌++◌, ap, ⊎_elim, arith}
use Rattle.lines.specs.Lines.{lines_left, places_left, with_places}
use Rattle.terms.specs.Texts.{fed}
use Rattle.wording.proofs.Said.{said_none, said_more, said_all}
use Rattle.inspections.specs.Words.{line_words, numbered_line, numbered_lines}
use Rattle.inspections.proofs.report.say_lines.Goals as goal

pub loop-number-init : goal.loop-number-init
loop-number-init g c = (search rules, λ plain. said_none g.W.Write.write_str_gives c.args.f.now _ _ (search rules) plain)

pub loop-number-preserved : goal.loop-number-preserved
loop-number-preserved g c = (
  search rules,
  λ plain.
      let said = c.loop-number.invariant.1 plain in
      let piece = fed (numbered_line c.in-Some.number c.in-Some.line.place (line_words c.in-Some.line.digits.now)) in
      let rest = numbered_lines c.next.new.self.a.start (places_left c.next.new.self.b) in
      let cut : numbered_lines c.loop-number.number-iterator.a.start (places_left c.loop-number.number-iterator.b) ≡ piece ++ rest = search rules in
      said_more g.W.Write.write_str_gives c.args.f.now _ piece rest _ _ _ cut said (search rules),
)

pub returns : goal.returns
returns g c = λ plain ok.
    let number = c.loop-number.number-iterator.a.start in
    let reader = c.loop-number.number-iterator.b in
    let none : lines_left reader ≡ [] = ⊎_elim (λ ended. absurd (omega (arith, ended.1.0, c.loop-number.invariant.0))) (λ ended. ended.1.0.0) c.in-None.ensures.steps in
    said_all g.W.Write.write_str_gives c.args.f.now _ _ _ (ap (λ lines. numbered_lines number (with_places reader.at lines)) none) (c.loop-number.invariant.1 plain)
