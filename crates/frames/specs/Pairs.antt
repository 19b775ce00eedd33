-- P: the figures of the record of a pair, and that they and it tell each other. Assumes nothing.
use Rattle.std.specs.Prelude.{ℕ, List, [], ◌∷◌, refl}
use Rattle.frames.specs.declared.kinds.pair.PairRecord.{PairRecord}
use Rattle.frames.specs.Kinds.{pair_fields, pair_kind}
use Rattle.frames.specs.Values.{Recorded, recorded}

abbrev pub pair_figures : PairRecord → List ℕ
pair_figures r = r.first ∷ r.second ∷ r.crt ∷ []

pub pair_laws : Recorded pair_kind pair_figures
pair_laws = recorded pair_kind.byte pair_fields pair_figures
    (λ r. (r.first, (r.second, (r.crt, tt))))
    (λ v c. record { first = v.0; second = v.1.0; crt = v.1.1.0; carried = c })
    (λ r. r.carried) (λ r. refl) (λ r. refl) (λ v c. refl) refl
