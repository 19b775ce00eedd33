-- What the answer of a call tells of its questions. Assumes nothing.
use Rattle.std.proofs.Common.{◌≡◌, ℕ, Some, None, Ok, Err, Option, refl, ap, arith, Bool, true, false}
use Rattle.terms.specs.declared.fault.Fault.{Fault}
use Rattle.terms.specs.declared.layer.Layer.{Layer}
use Rattle.terms.specs.declared.refusal.Refusal.{Refusal}
use Rattle.terms.specs.Questions.{ask, answer, fault, fault_of}
use Rattle.terms.specs.Refusals.{answer_at, fault_at, refused_at}

-- an accepted call: no question was answered no
pub answer_ok : {V : Type 0} (place : ℕ) (value v : V) (questions : Option Refusal) → Ok v ≡ answer_at place value questions → questions ≡ None
answer_ok place value v None e = refl
answer_ok place value v (Some refusal) e = let z : ◌≡◌ {A = ℕ} 0 1 = cc in absurd (omega arith)

-- a refused call: its fault is that of the question
pub answer_err : {V : Type 0} (place : ℕ) (value : V) (questions : Option Refusal) (f : Fault) → Err f ≡ answer_at place value questions
    → (refusal : Refusal) × (questions ≡ Some refusal) × (f ≡ fault_at place refusal)
answer_err place value None f e = let z : ◌≡◌ {A = ℕ} 0 1 = cc in absurd (omega arith)
answer_err place value (Some refusal) f e = (refusal, refl, cc)

-- the same two of an answer whose layer is told
pub layered_ok : {V : Type 0} (layer : Layer) (place : ℕ) (value v : V) (questions : Option Refusal) → Ok v ≡ answer layer place value questions → questions ≡ None
layered_ok layer place value v None e = refl
layered_ok layer place value v (Some refusal) e = let z : ◌≡◌ {A = ℕ} 0 1 = cc in absurd (omega arith)

pub layered_err : {V : Type 0} (layer : Layer) (place : ℕ) (value : V) (questions : Option Refusal) (f : Fault) → Err f ≡ answer layer place value questions
    → (refusal : Refusal) × (questions ≡ Some refusal) × (f ≡ fault layer place refusal)
layered_err layer place value None f e = let z : ◌≡◌ {A = ℕ} 0 1 = cc in absurd (omega arith)
layered_err layer place value (Some refusal) f e = (refusal, refl, cc)

-- what an accepted call answers
pub answer_value : {V : Type 0} (layer : Layer) (place : ℕ) (value v : V) (questions : Option Refusal) → Ok v ≡ answer layer place value questions → v ≡ value
answer_value layer place value v None e = cc
answer_value layer place value v (Some refusal) e = let z : ◌≡◌ {A = ℕ} 0 1 = cc in absurd (omega arith)

-- the same refusal, of a call with another value
pub answer_other : {V W : Type 0} (layer : Layer) (place : ℕ) (value : V) (other : W) (questions : Option Refusal) (f : Fault) → Err f ≡ answer layer place value questions → Err f ≡ answer layer place other questions
answer_other layer place value other None f e = let z : ◌≡◌ {A = ℕ} 0 1 = cc in absurd (omega arith)
answer_other layer place value other (Some refusal) f e = let same : f ≡ fault layer place refusal = cc in ap Err same

-- a question that is answered yes, where the call is not refused
pub asked : {R : Type 0} (b : Bool) (o : Option R) (e : R) → ask b e o ≡ None → (b ≡ true) × (o ≡ None)
asked true o e h = (refl, h)
asked false o e h = let z : ◌≡◌ {A = ℕ} 0 1 = cc in absurd (omega arith)

-- no fault is no refusal
pub unfaulted : (layer : Layer) (place : ℕ) (o : Option Refusal) → fault_of layer place o ≡ None → o ≡ None
unfaulted layer place None e = refl
unfaulted layer place (Some refusal) e = let z : ◌≡◌ {A = ℕ} 0 1 = cc in absurd (omega arith)

pub unrefused : (place : ℕ) (o : Option Refusal) → refused_at place o ≡ None → o ≡ None
unrefused place None e = refl
unrefused place (Some refusal) e = let z : ◌≡◌ {A = ℕ} 0 1 = cc in absurd (omega arith)
