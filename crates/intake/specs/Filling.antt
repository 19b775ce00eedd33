-- Lines written at the front of a memory, and the lines of class records. Assumes nothing.
use Rattle.std.specs.Prelude.{◌≡◌, ℕ, zero, suc, ◌+◌, ◌*◌, cond, List, [], ◌∷◌, ◌++◌, length, drop, slice_index_or}
use Rattle.frames.specs.Frames.{line_of}
use Rattle.frames.specs.Fields.{bytes}
use Rattle.frames.specs.Kinds.{Kind, deposit_kind, total_kind}
use Rattle.lines.specs.Lines.{fed}
use Rattle.deposits.specs.declared.records.ClassMargin.{ClassMargin}
use Rattle.deposits.specs.declared.records.Summary.{Summary}
use Rattle.deposits.specs.Told.{none}

-- the bytes of a frame's line and its feed
abbrev pub size_of : Kind → ℕ
size_of k = 3 + 2 * bytes k.widths

abbrev pub class_size : ℕ
class_size = size_of deposit_kind

abbrev pub total_size : ℕ
total_size = size_of total_kind

-- the lines, each with its feed, stand at the front of the memory; these are so many bytes, and the others are as they were
pub record Fills (lines : List (List ℕ)) (before : List ℕ) (count : ℕ) (after : List ℕ) : Type 0 where
  pub told : count ≡ length (fed lines)
  pub memory : after ≡ fed lines ++ drop count before

-- the same, shut
unfoldable pub Stands : List (List ℕ) → List ℕ → ℕ → List ℕ → Type 0
Stands lines before count after = Fills lines before count after

-- these lines stand behind whatever lines fill the first `at` bytes, and end at `count`
abbrev pub Appends : List (List ℕ) → ℕ → List ℕ → ℕ → List ℕ → Type 0
Appends lines at before count after = (there : List (List ℕ)) (memory : List ℕ) → Stands there memory at before → Stands (there ++ lines) memory count after

-- the line of a class's record
unfoldable pub record_line : ℕ → ClassMargin → List ℕ
record_line c w = line_of deposit_kind (c ∷ w.drr.grosz ∷ w.drs.grosz ∷ w.dswk.grosz ∷ w.kspk.grosz ∷ w.dolr.grosz ∷ [])

-- the same, if the class is held
abbrev pub record_lines : ℕ → ClassMargin → List (List ℕ)
record_lines c w = cond w.held (record_line c w ∷ []) []

-- those of the classes below n
unfoldable pub records_lines : ℕ → List ClassMargin → List (List ℕ)
records_lines zero ds = []
records_lines (suc n) ds = records_lines n ds ++ record_lines n (slice_index_or ds n none)

unfoldable pub summary_line : Summary → List ℕ
summary_line s = line_of total_kind (s.classes ∷ s.securities ∷ s.pairs ∷ s.dspan.grosz ∷ [])
