-- What a class owes: its parts less its credits. Assumes nothing.
use Rattle.std.specs.Prelude.{ℕ, ◌≤◌, List, ℤ, pos, ◌-ℤ◌, slice_index_or}
use Rattle.exact.specs.declared.records.Class.{Class}
use Rattle.exact.specs.Classes.{none}
use Rattle.exact.specs.Sizes.{owed_limit, part_limit}

abbrev pub owed_by : Class → ℤ
owed_by w = pos w.risk -ℤ pos w.credits

-- of each class
abbrev pub owed_in : List Class → ℕ → ℤ
owed_in cs c = owed_by (slice_index_or cs c none)

-- a class whose parts and credits fit
abbrev pub Small : Class → Type 0
Small w = (w.risk ≤ owed_limit) × (w.credits ≤ part_limit)
