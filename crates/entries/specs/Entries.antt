-- What a line of a text brings: the row of a class, of a security or of a pair, or a booking. Assumes nothing.
use Rattle.std.specs.Prelude.{ℕ, cond, List, take, drop, ℤ, Some, None, Option, ◌==◌, slice_index}
use Rattle.terms.specs.declared.choice.ClassKind.{ClassKind}
use Rattle.terms.specs.declared.choice.ClassKind.TheVariants.{Liquidity, Duration}
use Rattle.terms.specs.declared.choice.Side.{Side}
use Rattle.terms.specs.declared.choice.Side.TheVariants.{Bought, Sold}
use Rattle.terms.specs.Choices.{class_kind_byte, side_byte, signed}
use Rattle.frames.specs.Fields.{numbers_of}
use Rattle.frames.specs.Hex.{number_of}
use Rattle.frames.specs.Kinds.{class_kind, security_kind, pair_kind, booking_kind}
use Rattle.rules.specs.declared.rows.ClassRow.{ClassRow}
use Rattle.rules.specs.declared.rows.SecurityRow.{SecurityRow}
use Rattle.rules.specs.declared.rows.PairRow.{PairRow}

-- a row of a sheet, with the number of its class or security
pub data Row : Type 0 where
  of_class : ℕ → ClassRow → Row
  of_security : ℕ → SecurityRow → Row
  of_pair : PairRow → Row

pub data Entry : Type 0 where
  row_entry : Row → Entry
  booking_entry : ℕ → ℤ → Entry

-- ---- what the figures of a frame mean, field by field

abbrev pub kind_named : ℕ → ClassKind
kind_named byte = cond (byte == class_kind_byte Liquidity) Liquidity Duration

abbrev pub side_named : ℕ → Side
side_named byte = cond (byte == side_byte Bought) Bought Sold

abbrev pub class_row : List ℕ → ClassRow
class_row n = record { kind = kind_named (slice_index n 1); y = slice_index n 2; x = slice_index n 3; dep = slice_index n 4 }

abbrev pub security_row : List ℕ → SecurityRow
security_row n = record { class = slice_index n 1; price = slice_index n 2; rate = slice_index n 3; duration = slice_index n 4 }

abbrev pub pair_row : List ℕ → PairRow
pair_row n = record { first = slice_index n 0; second = slice_index n 1; crt = slice_index n 2 }

abbrev pub quantity_of : List ℕ → ℤ
quantity_of n = signed (side_named (slice_index n 1)) (slice_index n 2)

abbrev pub listed_class : List ℕ → Row
listed_class n = of_class (slice_index n 0) (class_row n)

abbrev pub listed_security : List ℕ → Row
listed_security n = of_security (slice_index n 0) (security_row n)

abbrev pub listed_pair : List ℕ → Row
listed_pair n = of_pair (pair_row n)

-- ---- what a frame brings, by its kind byte and its fields

-- frames of other kinds bring nothing
abbrev pub brought : ℕ → List ℕ → Option Entry
brought byte fields =
    cond (byte == class_kind.byte) (Some (row_entry (listed_class (numbers_of class_kind.widths fields))))
    (cond (byte == security_kind.byte) (Some (row_entry (listed_security (numbers_of security_kind.widths fields))))
    (cond (byte == pair_kind.byte) (Some (row_entry (listed_pair (numbers_of pair_kind.widths fields))))
    (cond (byte == booking_kind.byte) (Some (booking_entry (slice_index (numbers_of booking_kind.widths fields) 0) (quantity_of (numbers_of booking_kind.widths fields))))
    None)))

-- what the frame of a line brings
abbrev pub entry_of : List ℕ → Option Entry
entry_of line = brought (number_of (take 2 line)) (drop 2 line)
