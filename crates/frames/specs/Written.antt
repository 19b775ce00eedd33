-- A line written at the front of a memory, with its line feed. Assumes nothing.
use Rattle.std.specs.Prelude.{◌≡◌, ℕ, ◌+◌, Bool, cond, List, [], ◌∷◌, ◌++◌, length, drop, None, Ok, Result, nat_lt}
use Rattle.terms.specs.Refusals.{answer_at}
use Rattle.terms.specs.declared.fault.Fault.{Fault}
use Rattle.terms.specs.declared.refusal.Refusal.TheVariants.{LineMemoryTooShort}
use Rattle.terms.specs.Questions.{ask}
use Rattle.frames.specs.Frames.{Reads, line_of, line_refusal}
use Rattle.frames.specs.Kinds.{Kind}

-- whether the memory holds the line and its feed
abbrev pub has_room : List ℕ → List ℕ → Bool
has_room line memory = nat_lt (length line) (length memory)

-- the memory after the line is written: one that cannot hold it is left as it was
abbrev pub written : List ℕ → List ℕ → List ℕ
written line memory = cond (has_room line memory) (line ++ (10 ∷ drop (length line + 1) memory)) memory

-- how many bytes are written, or the refusal
abbrev pub written_answer : List ℕ → List ℕ → Result ℕ Fault
written_answer line memory = answer_at 0 (length line + 1) (ask (has_room line memory) LineMemoryTooShort None)

-- whatever reading these bytes tells is this record; shut, so that no search opens it
unfoldable pub ReadsBack : {R : Type 0} → Kind → (R → List ℕ) → R → List ℕ → Type 0
ReadsBack {R} k figures item line = (r : Result R Fault) → Reads (λ x. line_of k (figures x)) (line_refusal (k ∷ []) line) line r → r ≡ Ok item
