use Rattle.std.proofs.Common.{◌*◌, ◌≤◌}
use Rattle.intake.specs.Filling.{Fills, class_size, records_lines}
use Rattle.intake.proofs.writing.write_classes.Given as goal

abbrev pub invariant-loop-class : goal.invariant-loop-class
invariant-loop-class l = Fills (records_lines l.class l.classes) l.initial.answer l.count l.answer × (l.count ≤ class_size * l.class)
