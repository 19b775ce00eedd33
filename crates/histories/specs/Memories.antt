-- What a history leaves in the memory handed in for deposits. Assumes nothing.
use Rattle.std.specs.Prelude.{List, [], ◌∷◌, ◌++◌, length, drop, Ok, Err, Result}
use Rattle.terms.specs.Limits.{class_count}
use Rattle.terms.specs.declared.fault.Fault.{Fault}
use Rattle.deposits.specs.declared.records.ClassMargin.{ClassMargin}
use Rattle.deposits.specs.declared.records.Match.{Match}
use Rattle.histories.specs.declared.step.Entry.{Entry}
use Rattle.histories.specs.declared.step.Entry.TheVariants.{Done, Told}
use Rattle.histories.specs.declared.telling.Telling.{Telling}
use Rattle.histories.specs.Tellings.{told_matches}

-- the class places, and the places for matches
pub record Memory : Type 0 where
  pub classes : List ClassMargin
  pub matches : List Match

abbrev pub memory_of : List ClassMargin → List Match → Memory
memory_of classes matches = record { classes = classes; matches = matches }

-- a deposit writes what it tells to the front of both, and nothing else
abbrev pub told_into : Memory → Telling → Memory
told_into m t = record {
  classes = t.classes ++ drop class_count m.classes;
  matches = told_matches t ++ drop (length (told_matches t)) m.matches;
}

-- a deposit that is refused writes nothing
abbrev pub answered_into : Memory → Result Telling Fault → Memory
answered_into m (Ok t) = told_into m t
answered_into m (Err f) = m

-- and no other call does
abbrev pub entered_into : Memory → Entry → Memory
entered_into m (Done r) = m
entered_into m (Told r) = answered_into m r

-- the memory after these entries
abbrev pub written_by : List Entry → Memory → Memory
written_by [] m = m
written_by (e ∷ rest) m = written_by rest (entered_into m e)
