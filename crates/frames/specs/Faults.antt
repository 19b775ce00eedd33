-- F: the figures of the record of a refused call, and that they and it tell each other. Assumes nothing.
use Rattle.std.specs.Prelude.{ℕ, List, [], ◌∷◌, refl}
use Rattle.frames.specs.declared.kinds.fault.FaultRecord.{FaultRecord}
use Rattle.frames.specs.Kinds.{fault_fields, fault_kind}
use Rattle.frames.specs.Values.{Recorded, recorded}

abbrev pub fault_figures : FaultRecord → List ℕ
fault_figures r = r.number ∷ r.layer ∷ r.line ∷ r.place ∷ []

pub fault_laws : Recorded fault_kind fault_figures
fault_laws = recorded fault_kind.byte fault_fields fault_figures
    (λ r. (r.number, (r.layer, (r.line, (r.place, tt)))))
    (λ v c. record { number = v.0; layer = v.1.0; line = v.1.1.0; place = v.1.1.1.0; carried = c })
    (λ r. r.carried) (λ r. refl) (λ r. refl) (λ v c. refl) refl
