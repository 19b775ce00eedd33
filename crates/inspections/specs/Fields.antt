-- What the fields of a frame read as, and what is shown of that. Assumes nothing.
use Rattle.std.specs.Prelude.{◌≡◌, ℕ, List, Some, None, Ok, Err, Option, Result, codes}
use Rattle.terms.specs.Refusals.{refused_at}
use Rattle.terms.specs.declared.fault.Fault.{Fault}
use Rattle.frames.specs.Fields.{numbers_of}
use Rattle.frames.specs.Frames.{fields_refusal}
use Rattle.frames.specs.Kinds.{Kind}

-- the figures of the record are what the fields of its kind read as, or the fields are refused
abbrev pub ReadAs : {R : Type 0} → Kind → (R → List ℕ) → List ℕ → Result R Fault → Type 0
ReadAs kind figures fields (Ok item) = (fields_refusal kind fields ≡ None) × (figures item ≡ numbers_of kind.widths fields)
ReadAs kind figures fields (Err f) = Some f ≡ refused_at 0 (fields_refusal kind fields)

-- what is shown of words, and other words where there are none
abbrev pub shown : {T : Type 0} → (T → Option (List ℕ)) → Result T Fault → Option (List ℕ)
shown words (Ok item) = words item
shown words (Err f) = Some (codes "not a frame")
