-- The questions put to a row, each answered yes. Assumes nothing.
use Rattle.std.proofs.Common.{◌≡◌, ℕ, ◌<◌, true, not, ltb, length, is_some, Some, None, Option, refl, arith}
use Rattle.std.proofs.lemmas.Bool.{and_parts, ltb-true}
use Rattle.terms.specs.Limits.{security_count, class_count, pair_limit}
use Rattle.terms.proofs.Answered.{asked}
use Rattle.rules.specs.declared.rows.ClassRow.{ClassRow}
use Rattle.rules.specs.declared.rows.SecurityRow.{SecurityRow}
use Rattle.rules.specs.declared.rows.PairRow.{PairRow}
use Rattle.rules.specs.Rows.{Rows}
use Rattle.rules.specs.Tables.{has_test, class_figures, security_figures, pair_classes, pair_credit}
use Rattle.sheets.specs.Drafts.{class_refusal, security_refusal, pair_refusal}

absent : {A : Type 0} (o : Option A) → not (is_some o) ≡ true → o ≡ None
absent (Some a) e = let z : ◌≡◌ {A = ℕ} 0 1 = cc in absurd (omega arith)
absent None e = refl

pub record ClassAsked (rows : Rows) (class : ℕ) (row : ClassRow) : Type 0 where
  pub number : class < class_count
  pub new : rows.classes class ≡ None
  pub figures : class_figures row ≡ true

pub class_asked : (rows : Rows) (class : ℕ) (row : ClassRow) → class_refusal rows class row ≡ None → ClassAsked rows class row
class_asked rows class row e =
    let a = asked _ _ _ e in
    let b = asked _ _ _ a.1 in
    let c = asked _ _ _ b.1 in
    record { number = ltb-true class class_count a.0; new = absent (rows.classes class) b.0; figures = c.0 }

pub record SecurityAsked (rows : Rows) (security : ℕ) (row : SecurityRow) : Type 0 where
  pub number : security < security_count
  pub new : rows.securities security ≡ None
  pub figures : has_test (λ class. security_figures class.kind row) (rows.classes row.class) ≡ true

pub security_asked : (rows : Rows) (security : ℕ) (row : SecurityRow) → security_refusal rows security row ≡ None → SecurityAsked rows security row
security_asked rows security row e =
    let a = asked _ _ _ e in
    let b = asked _ _ _ a.1 in
    let c = asked _ _ _ b.1 in
    let n = and_parts (ltb security security_count) (not (is_some (rows.securities security))) a.0 in
    record { number = ltb-true security security_count n.0; new = absent (rows.securities security) n.1; figures = c.0 }

pub record PairAsked (rows : Rows) (pair : PairRow) : Type 0 where
  pub classes : pair_classes rows.classes pair ≡ true
  pub credit : pair_credit rows.classes pair ≡ true
  pub room : length rows.pairs < pair_limit

pub pair_asked : (rows : Rows) (pair : PairRow) → pair_refusal rows pair ≡ None → PairAsked rows pair
pair_asked rows pair e =
    let a = asked _ _ _ e in
    let b = asked _ _ _ a.1 in
    let c = asked _ _ _ b.1 in
    record { classes = a.0; credit = b.0; room = ltb-true (length rows.pairs) pair_limit c.0 }
