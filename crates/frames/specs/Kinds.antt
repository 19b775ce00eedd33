-- The kinds of frames: each by its kind byte and the sorts of its fields, in their order. Assumes nothing.
use Rattle.std.specs.Prelude.{◌≡◌, ℕ, Bool, cond, List, [], ◌∷◌, Some, None, Option, ◌==◌}
use Rattle.frames.specs.Sorts.{Sort, unsigned, class_kind_choice, side_choice, widths_of, second_choice}

-- the kind byte, the widths of the fields in bytes, and whether the second field is a choice between 01 and 02
pub record Kind : Type 0 where
  pub byte : ℕ
  pub widths : List ℕ
  pub choice : Bool

abbrev pub kind_of : ℕ → List Sort → Kind
kind_of byte sorts = record { byte = byte; widths = widths_of sorts; choice = second_choice sorts }

-- C: class, kind of class, y, x, dep
abbrev pub class_fields : List Sort
class_fields = unsigned 1 ∷ class_kind_choice ∷ unsigned 3 ∷ unsigned 3 ∷ unsigned 3 ∷ []

abbrev pub class_kind : Kind
class_kind = kind_of 0x43 class_fields

-- S: security, class, price, rate, duration
abbrev pub security_fields : List Sort
security_fields = unsigned 1 ∷ unsigned 1 ∷ unsigned 4 ∷ unsigned 3 ∷ unsigned 4 ∷ []

abbrev pub security_kind : Kind
security_kind = kind_of 0x53 security_fields

-- P: two classes, crt
abbrev pub pair_fields : List Sort
pair_fields = unsigned 1 ∷ unsigned 1 ∷ unsigned 3 ∷ []

abbrev pub pair_kind : Kind
pair_kind = kind_of 0x50 pair_fields

-- B: security, side, quantity
abbrev pub booking_fields : List Sort
booking_fields = unsigned 1 ∷ side_choice ∷ unsigned 4 ∷ []

abbrev pub booking_kind : Kind
booking_kind = kind_of 0x42 booking_fields

-- D: class, DRR, DRS, DSWK, KSPK, DOLR
abbrev pub deposit_fields : List Sort
deposit_fields = unsigned 1 ∷ unsigned 8 ∷ unsigned 8 ∷ unsigned 8 ∷ unsigned 8 ∷ unsigned 8 ∷ []

abbrev pub deposit_kind : Kind
deposit_kind = kind_of 0x44 deposit_fields

-- T: C, N, R, DSPAN
abbrev pub total_fields : List Sort
total_fields = unsigned 1 ∷ unsigned 2 ∷ unsigned 1 ∷ unsigned 8 ∷ []

abbrev pub total_kind : Kind
total_kind = kind_of 0x54 total_fields

-- F: number, layer, line, place
abbrev pub fault_fields : List Sort
fault_fields = unsigned 1 ∷ unsigned 1 ∷ unsigned 4 ∷ unsigned 2 ∷ []

abbrev pub fault_kind : Kind
fault_kind = kind_of 0x46 fault_fields

abbrev pub all_kinds : List Kind
all_kinds = class_kind ∷ security_kind ∷ pair_kind ∷ booking_kind ∷ deposit_kind ∷ total_kind ∷ fault_kind ∷ []

-- the kind with this kind byte, if it is among these kinds
abbrev pub find_kind : List Kind → ℕ → Option Kind
find_kind [] byte = None
find_kind (k ∷ kinds) byte = cond (byte == k.byte) (Some k) (find_kind kinds byte)

-- whether a kind is one of the table; shut, so that no search opens the table
unfoldable pub Listed : Kind → Type 0
Listed k = find_kind all_kinds k.byte ≡ Some k

pub is_listed : (k : Kind) → find_kind all_kinds k.byte ≡ Some k → Listed k
unfolding Listed
is_listed k e = e
