-- D: the figures of the record of a deposit of a class, and that they and it tell each other. Assumes nothing.
use Rattle.std.specs.Prelude.{ℕ, List, [], ◌∷◌, refl}
use Rattle.frames.specs.declared.kinds.deposit.DepositRecord.{DepositRecord}
use Rattle.frames.specs.Kinds.{deposit_fields, deposit_kind}
use Rattle.frames.specs.Values.{Recorded, recorded}

abbrev pub deposit_figures : DepositRecord → List ℕ
deposit_figures r = r.class ∷ r.drr ∷ r.drs ∷ r.dswk ∷ r.kspk ∷ r.dolr ∷ []

pub deposit_laws : Recorded deposit_kind deposit_figures
deposit_laws = recorded deposit_kind.byte deposit_fields deposit_figures
    (λ r. (r.class, (r.drr, (r.drs, (r.dswk, (r.kspk, (r.dolr, tt)))))))
    (λ v c. record { class = v.0; drr = v.1.0; drs = v.1.1.0; dswk = v.1.1.1.0; kspk = v.1.1.1.1.0; dolr = v.1.1.1.1.1.0; carried = c })
    (λ r. r.carried) (λ r. refl) (λ r. refl) (λ v c. refl) refl
