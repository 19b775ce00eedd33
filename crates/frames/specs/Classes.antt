-- C: the figures of the record of a class row, and that they and it tell each other. Assumes nothing.
use Rattle.std.specs.Prelude.{ℕ, List, [], ◌∷◌, refl}
use Rattle.terms.specs.Choices.{class_kind_byte}
use Rattle.frames.specs.declared.kinds.class.ClassRecord.{ClassRecord}
use Rattle.frames.specs.Kinds.{class_fields, class_kind}
use Rattle.frames.specs.Values.{Recorded, recorded}

abbrev pub class_figures : ClassRecord → List ℕ
class_figures r = r.class ∷ class_kind_byte r.kind ∷ r.y ∷ r.x ∷ r.dep ∷ []

pub class_laws : Recorded class_kind class_figures
class_laws = recorded class_kind.byte class_fields class_figures
    (λ r. (r.class, (r.kind, (r.y, (r.x, (r.dep, tt))))))
    (λ v c. record { class = v.0; kind = v.1.0; y = v.1.1.0; x = v.1.1.1.0; dep = v.1.1.1.1.0; carried = c })
    (λ r. r.carried) (λ r. refl) (λ r. refl) (λ v c. refl) refl
