-- The lines of the classes, one more. Assumes nothing.
use Rattle.std.proofs.Common.{◌≡◌, ℕ, suc, ◌+◌, List, [], ◌++◌, get_or, refl, ap, ◌∙◌, add-one}
use Rattle.deposits.specs.declared.records.ClassMargin.{ClassMargin}
use Rattle.deposits.specs.Told.{none}
use Rattle.intake.specs.Filling.{records_lines, record_lines}

pub records_none : (ds : List ClassMargin) → records_lines 0 ds ≡ []
unfolding records_lines
records_none ds = refl

records_suc : (n : ℕ) (ds : List ClassMargin) → records_lines (suc n) ds ≡ records_lines n ds ++ record_lines n (get_or ds n none)
unfolding records_lines
records_suc n ds = refl

pub records_more : (n : ℕ) (ds : List ClassMargin) → records_lines (n + 1) ds ≡ records_lines n ds ++ record_lines n (get_or ds n none)
records_more n ds = ap (λ k. records_lines k ds) (add-one n) ∙ records_suc n ds
