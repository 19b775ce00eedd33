use Rattle.std.proofs.Common.{drop}
use Rattle.std.specs.Fmt.{IsPlainFormatter}
use Rattle.wording.proofs.Said.{Said}
use Rattle.gaps.specs.Lines.{matches_lines}
use Rattle.gaps.proofs.spoken.say_matches.Given as goal

abbrev pub invariant-loop-pair : goal.invariant-loop-pair
invariant-loop-pair g l =
    IsPlainFormatter l.initial.f → Said g.W.Write.write_str_gives l.initial.f (matches_lines (drop l.pair-index l.matches)) (matches_lines l.matches) l.f
