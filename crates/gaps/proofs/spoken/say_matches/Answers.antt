use Rattle.std.proofs.Common.{rules, ◌+◌, drop, ap}
use Rattle.std.proofs.lemmas.List.{drop_more}
use Rattle.wording.proofs.Said.{said_more}
use Rattle.gaps.specs.Lines.{matches_lines}
use Rattle.gaps.proofs.spoken.say_matches.Goals as goal

pub loop-pair-preserved : goal.loop-pair-preserved
loop-pair-preserved g c = λ plain.
    let said = c.loop-pair.invariant plain in
    let at = c.loop-pair.pair-index in
    let matches = c.args.matches.now in
    said_more g.W.Write.write_str_gives c.args.f.now _ _ (matches_lines (drop (at + 1) matches)) _ _ _ (ap matches_lines (drop_more matches at _ c.loop-pair-test.true)) said
    (c.say_match.ensures said.wrote.plain (search rules))
