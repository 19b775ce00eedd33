use Rattle.std.proofs.Common.{rules}
use Rattle.std.proofs.Output.{has_written_append, has_written_of_eq}
use Rattle.replay.proofs.Lines.{nets_more, nets_none}
use Rattle.replay.proofs.kept.NetsWordsDisplay.fmt.Goals as goal

pub loop-security-init : goal.loop-security-init
loop-security-init g c = λ plain. has_written_of_eq _ _ _ _ _ (nets_none _) (search rules)

pub loop-security-preserved : goal.loop-security-preserved
loop-security-preserved g c = λ plain.
    has_written_of_eq _ _ _ _ _ (nets_more _ _ c.of.result.net (search rules)) (has_written_append _ _ _ _ _ _ (c.loop-security.invariant plain) (search rules))
