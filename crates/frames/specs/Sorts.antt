-- The sorts of fields: how many bytes each has, what it holds, and the number that stands for that. Assumes nothing.
use Rattle.std.specs.Prelude.{ℕ, Bool, true, false, not, ◌&&◌, ◌||◌, List, [], ◌∷◌}
use Rattle.terms.specs.declared.choice.ClassKind.{ClassKind}
use Rattle.terms.specs.declared.choice.Side.{Side}
use Rattle.terms.specs.Choices.{class_kind_byte, side_byte}
use Rattle.frames.specs.Choices.{is_choice}

-- A number of so many bytes, 1 to 8, or a choice of two by the byte 01 or 02. A further sort stands here, as eight bytes of
-- two's complement, whose value is an integer and the proof that it fits, and whose number is that of the word. Each
-- definition over one sort, and each lemma over one field in Values, then has one case more.
pub data Sort : Type 0 where
  unsigned : ℕ → Sort
  class_kind_choice : Sort
  side_choice : Sort

abbrev pub width_of : Sort → ℕ
width_of (unsigned width) = width
width_of class_kind_choice = 1
width_of side_choice = 1

-- whether it is a choice
abbrev pub chooses : Sort → Bool
chooses (unsigned width) = false
chooses class_kind_choice = true
chooses side_choice = true

-- what a field of this sort holds
abbrev pub Value : Sort → Type 0
Value (unsigned width) = ℕ
Value class_kind_choice = ClassKind
Value side_choice = Side

abbrev pub number : (s : Sort) → Value s → ℕ
number (unsigned width) n = n
number class_kind_choice kind = class_kind_byte kind
number side_choice side = side_byte side

-- whether a number stands for something that a field of this sort holds, if the field carries it
abbrev pub stands : Sort → ℕ → Bool
stands s n = not (chooses s) || is_choice n

-- ---- the fields of a frame

abbrev pub widths_of : List Sort → List ℕ
widths_of [] = []
widths_of (s ∷ sorts) = width_of s ∷ widths_of sorts

-- what the fields of these sorts hold
abbrev pub Values : List Sort → Type 0
Values [] = Unit {0}
Values (s ∷ sorts) = Value s × Values sorts

abbrev pub numbers : (sorts : List Sort) → Values sorts → List ℕ
numbers [] v = []
numbers (s ∷ sorts) v = number s v.0 ∷ numbers sorts v.1

-- whether each number stands for something
abbrev pub all_stand : List Sort → List ℕ → Bool
all_stand [] ns = true
all_stand (s ∷ sorts) [] = true
all_stand (s ∷ sorts) (n ∷ ns) = stands s n && all_stand sorts ns

-- whether the second field is a choice
abbrev pub second_choice : List Sort → Bool
second_choice [] = false
second_choice (s ∷ []) = false
second_choice (s ∷ t ∷ sorts) = chooses t

abbrev pub no_choice : List Sort → Bool
no_choice [] = true
no_choice (s ∷ sorts) = not (chooses s) && no_choice sorts

-- no field but the second is a choice
abbrev pub choice_second : List Sort → Bool
choice_second [] = true
choice_second (s ∷ []) = not (chooses s)
choice_second (s ∷ t ∷ sorts) = not (chooses s) && no_choice sorts
