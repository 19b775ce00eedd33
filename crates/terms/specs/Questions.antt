-- The questions put to a call: they are put in order, and the first no decides. Assumes nothing.
use Rattle.std.specs.Prelude.{ℕ, Bool, true, false, Some, None, Ok, Err, Option, Result}
use Rattle.terms.specs.declared.fault.Fault.{Fault}
use Rattle.terms.specs.declared.layer.Layer.{Layer}
use Rattle.terms.specs.declared.refusal.Refusal.{Refusal}

-- one question: yes leads on to the questions after it, and no is what refuses
abbrev pub ask : {R : Type 0} → Bool → R → Option R → Option R
ask true refuses after = after
ask false refuses after = Some refuses

-- the fault of a refused call
abbrev pub fault : Layer → ℕ → Refusal → Fault
fault layer place refusal = record { refusal = refusal; layer = layer; place = place }

-- the fault of the question that refuses, if there is one
abbrev pub fault_of : Layer → ℕ → Option Refusal → Option Fault
fault_of layer place None = None
fault_of layer place (Some refusal) = Some (fault layer place refusal)

-- the answer of a call: its value, or the fault of the question that refuses
abbrev pub answer : {V : Type 0} → Layer → ℕ → V → Option Refusal → Result V Fault
answer layer place value None = Ok value
answer layer place value (Some refusal) = Err (fault layer place refusal)

-- the one, and where there is none the other
abbrev pub or_else : {A : Type 0} → Option A → Option A → Option A
or_else (Some a) o = Some a
or_else None o = o
