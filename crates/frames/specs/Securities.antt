-- S: the figures of the record of a security row, and that they and it tell each other. Assumes nothing.
use Rattle.std.specs.Prelude.{ℕ, List, [], ◌∷◌, refl}
use Rattle.frames.specs.declared.kinds.security.SecurityRecord.{SecurityRecord}
use Rattle.frames.specs.Kinds.{security_fields, security_kind}
use Rattle.frames.specs.Values.{Recorded, recorded}

abbrev pub security_figures : SecurityRecord → List ℕ
security_figures r = r.security ∷ r.class ∷ r.price ∷ r.rate ∷ r.duration ∷ []

pub security_laws : Recorded security_kind security_figures
security_laws = recorded security_kind.byte security_fields security_figures
    (λ r. (r.security, (r.class, (r.price, (r.rate, (r.duration, tt))))))
    (λ v c. record { security = v.0; class = v.1.0; price = v.1.1.0; rate = v.1.1.1.0; duration = v.1.1.1.1.0; carried = c })
    (λ r. r.carried) (λ r. refl) (λ r. refl) (λ v c. refl) refl
