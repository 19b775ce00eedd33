use Rattle.std.proofs.Common.{◌≡◌, ◌+◌, ◌-◌, ◌<◌, ◌∷◌, length, take, drop, min, sym, ap, ◌∙◌, arith, length-drop}
use Rattle.std.proofs.lemmas.List.{drop_all, drop_min}
use Rattle.lines.specs.Lines.{first_line, after_line, lines_of, with_places}
use Rattle.lines.proofs.Feeds.{first_take, line_end, after_fed, lines_first, next_place}
use Rattle.lines.proofs.reader.line_from.Goals as goal

pub returns-then-start-text : goal.returns-then-start-text
returns-then-start-text c =
    let none = drop_all c.args.start c.args.text.now c.if-start-text.true in
    record { line = none; lines = ap lines_of none; after = ap after_line none; place = ap (λ t. with_places c.args.start (lines_of t)) none }

pub returns : goal.returns
returns c =
    let text = c.args.text.now in
    let start = c.args.start in
    let n = c.line_length.result in
    let rest = drop start text in
    let end = line_end text start n c.if-start-text.false c.line_length.ensures.is in
    let cut : start + n - start ≡ length (first_line rest) = omega (arith, end.0) in
    let some : 0 < length rest = omega (arith, length-drop start text, c.if-start-text.false) in
    let line : take (start + n - start) rest ≡ first_line rest = ap (λ k. take k rest) cut ∙ first_take rest in
    let is : start + n ≡ start + length (first_line rest) = omega (arith, end.0) in
    let after : drop c.min-next.result text ≡ after_line rest = ap (λ k. drop k text) c.min-next.ensures ∙ drop_min (start + n + 1) text ∙ after_fed text start (start + n) is in
    let lines : lines_of rest ≡ take (start + n - start) rest ∷ lines_of (drop c.min-next.result text) =
    lines_first rest some ∙ ap (λ l. l ∷ lines_of (after_line rest)) (sym line) ∙ ap (λ l. take (start + n - start) rest ∷ lines_of l) (sym after) in
    let long : n ≡ length (take (start + n - start) rest) = end.0 ∙ ap length (sym line) in
    let next : c.min-next.result ≡ min (start + length (take (start + n - start) rest) + 1) (length text) = c.min-next.ensures ∙ ap (λ k. min (start + k + 1) (length text)) long in
    record {
      line = line;
      lines = lines;
      after = after;
      place =
          ap (with_places start) lines
          ∙ ap (λ l. record { place = start; line = take (start + n - start) rest } ∷ l) (sym (next_place text c.min-next.result (start + length (take (start + n - start) rest) + 1) next));
    }
