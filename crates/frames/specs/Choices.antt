-- A choice between two. Assumes nothing.
use Rattle.std.specs.Prelude.{ℕ, Bool, ◌||◌, ◌==◌}

-- whether a byte is one of the two that stand for a choice
abbrev pub is_choice : ℕ → Bool
is_choice n = n == 1 || n == 2
