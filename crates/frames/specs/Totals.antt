-- T: the figures of the record of a deposit of a portfolio, and that they and it tell each other. Assumes nothing.
use Rattle.std.specs.Prelude.{ℕ, List, [], ◌∷◌, refl}
use Rattle.frames.specs.declared.kinds.total.TotalRecord.{TotalRecord}
use Rattle.frames.specs.Kinds.{total_fields, total_kind}
use Rattle.frames.specs.Values.{Recorded, recorded}

abbrev pub total_figures : TotalRecord → List ℕ
total_figures r = r.classes ∷ r.securities ∷ r.pairs ∷ r.dspan ∷ []

pub total_laws : Recorded total_kind total_figures
total_laws = recorded total_kind.byte total_fields total_figures
    (λ r. (r.classes, (r.securities, (r.pairs, (r.dspan, tt)))))
    (λ v c. record { classes = v.0; securities = v.1.0; pairs = v.1.1.0; dspan = v.1.1.1.0; carried = c })
    (λ r. r.carried) (λ r. refl) (λ r. refl) (λ v c. refl) refl
