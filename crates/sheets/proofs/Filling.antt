-- A place filled with a row that the questions let pass: the table passes its test again. Assumes nothing.
use Rattle.std.proofs.Common.{Option, List, ◌≡◌, ℕ, ◌<◌, true, length, set, Some, None, sym, subst}
use Rattle.terms.specs.Limits.{security_count, class_count}
use Rattle.rules.specs.declared.rows.ClassRow.{ClassRow}
use Rattle.rules.specs.declared.rows.SecurityRow.{SecurityRow}
use Rattle.rules.specs.declared.rows.PairRow.{PairRow}
use Rattle.rules.specs.Rows.{Lawful}
use Rattle.rules.specs.Tables.{Table, rows_of, table_test}
use Rattle.rules.proofs.Tables.{table_lawful, lawful_passes}
use Rattle.sheets.specs.Drafts.{with_class, with_security, class_refusal, security_refusal}
use Rattle.sheets.proofs.Places.{class_put, security_put}
use Rattle.sheets.proofs.Asked.{class_asked, security_asked}
use Rattle.sheets.proofs.Growth.{class_keeps, security_keeps}

abbrev as_table : List (Option ClassRow) → List (Option SecurityRow) → List PairRow → Table
as_table classes securities pairs = record { class_rows = classes; security_rows = securities; pair_rows = pairs }

module _ (classes : List (Option ClassRow)) (securities : List (Option SecurityRow)) (pairs : List PairRow) (ok : table_test (as_table classes securities pairs) ≡ true) where
  module _ (class : ℕ) (row : ClassRow) (long : length classes ≡ class_count) (asked : class_refusal (rows_of (as_table classes securities pairs)) class row ≡ None) where
    pub class_filled : rows_of (as_table (set classes class (Some row)) securities pairs) ≡ with_class (rows_of (as_table classes securities pairs)) class row
    class_filled = class_put (as_table classes securities pairs) class row (subst (λ k. class < k) (sym long) (class_asked (rows_of (as_table classes securities pairs)) class row asked).number)

    pub class_kept : table_test (as_table (set classes class (Some row)) securities pairs) ≡ true
    class_kept = lawful_passes _ (subst Lawful (sym class_filled) (class_keeps (rows_of (as_table classes securities pairs)) (table_lawful (as_table classes securities pairs) ok) class row asked))

  module _ (security : ℕ) (row : SecurityRow) (long : length securities ≡ security_count) (asked : security_refusal (rows_of (as_table classes securities pairs)) security row ≡ None) where
    pub security_filled : rows_of (as_table classes (set securities security (Some row)) pairs) ≡ with_security (rows_of (as_table classes securities pairs)) security row
    security_filled = security_put (as_table classes securities pairs) security row (subst (λ k. security < k) (sym long) (security_asked (rows_of (as_table classes securities pairs)) security row asked).number)

    pub security_kept : table_test (as_table classes (set securities security (Some row)) pairs) ≡ true
    security_kept = lawful_passes _ (subst Lawful (sym security_filled) (security_keeps (rows_of (as_table classes securities pairs)) (table_lawful (as_table classes securities pairs) ok) security row asked))
