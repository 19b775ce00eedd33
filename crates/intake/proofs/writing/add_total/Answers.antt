use Rattle.intake.specs.Filling.{Stands}
use Rattle.intake.proofs.Memories.{more_lines}
use Rattle.intake.proofs.writing.add_total.Goals as goal

pub returns-clause-lines : goal.returns-clause-lines
unfolding Stands
returns-clause-lines c = λ there memory first. more_lines there _ memory c.args.answer.now c.args.at c.write_total.result c.write_total.new.memory first c.write_total.ensures.fills
