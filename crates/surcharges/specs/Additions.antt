-- What a table of additions means. Assumes nothing.
use Rattle.std.specs.Prelude.{ℕ, slice_index_or}
use Rattle.rules.specs.declared.rows.Addition.{Addition}
use Rattle.surcharges.specs.declared.additions.AdditionTable.{AdditionTable}
use Rattle.surcharges.specs.Surcharges.{Additions}

abbrev pub nothing : Addition
nothing = record { y = 0; x = 0 }

-- what is added to a class
abbrev pub addition_in : AdditionTable → ℕ → Addition
addition_in t class = slice_index_or t.classes class nothing

abbrev pub additions_in : AdditionTable → Additions
additions_in t = record { on_y = λ c. (addition_in t c).y; on_x = λ c. (addition_in t c).x }
