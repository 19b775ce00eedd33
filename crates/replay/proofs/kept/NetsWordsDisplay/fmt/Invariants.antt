use Rattle.std.specs.Fmt.{HasWritten, IsPlainFormatter}
use Rattle.replay.specs.Words.{nets_words}
use Rattle.replay.proofs.kept.NetsWordsDisplay.fmt.Given as goal

abbrev pub invariant-loop-security : goal.invariant-loop-security
invariant-loop-security g l =
    IsPlainFormatter l.initial.f → HasWritten g.W.Write.write_str_gives l.initial.f (nets_words (g.B.Positions.nets l.initial.self.0.now) l.security) l.f
