-- The counts of a text. Assumes nothing.
use Rattle.std.specs.Prelude.{◌≡◌, ℕ, ◌+◌, List, length}
use Rattle.frames.specs.Kinds.{class_kind, security_kind, pair_kind, booking_kind, deposit_kind, total_kind, fault_kind}
use Rattle.inspections.specs.Counts.{count_of}
use Rattle.inspections.specs.declared.totals.Totals.{Totals}

-- each count is that of its kind byte, and each line is counted once
pub record Counted (text : List (List ℕ)) (t : Totals) : Type 0 where
  pub lines : t.lines ≡ length text
  pub classes : t.classes ≡ count_of class_kind.byte text
  pub securities : t.securities ≡ count_of security_kind.byte text
  pub pairs : t.pairs ≡ count_of pair_kind.byte text
  pub bookings : t.bookings ≡ count_of booking_kind.byte text
  pub deposits : t.deposits ≡ count_of deposit_kind.byte text
  pub totals : t.totals ≡ count_of total_kind.byte text
  pub faults : t.faults ≡ count_of fault_kind.byte text
  pub refused : t.refused ≡ count_of 0 text
  pub once : t.classes + t.securities + t.pairs + t.bookings + t.deposits + t.totals + t.faults + t.refused ≡ t.lines

-- the counts of a text
abbrev pub totals_of : List (List ℕ) → Totals
totals_of text = record {
  lines = length text;
  classes = count_of class_kind.byte text;
  securities = count_of security_kind.byte text;
  pairs = count_of pair_kind.byte text;
  bookings = count_of booking_kind.byte text;
  deposits = count_of deposit_kind.byte text;
  totals = count_of total_kind.byte text;
  faults = count_of fault_kind.byte text;
  refused = count_of 0 text;
}
