-- Rows and pairs in lists, by place. Assumes nothing.
use Rattle.std.proofs.Common.{◌≡◌, Bor, option_copied, ℕ, zero, suc, ◌<◌, eqb, List, [], ◌∷◌, length, get_or, set, replicate, Some, None, Option, sym, refl, ap, ◌∙◌, ⊎_elim}
use Rattle.std.proofs.lemmas.List.{get_or-set_same, get_or-set_other}
use Rattle.std.proofs.lemmas.Bool.{cases_eq, cond-true, eq-eqb}
use Rattle.std.proofs.lemmas.Map.{update_apart}
use Rattle.std.specs.List.{slice_get}
use Rattle.std.specs.Option.{option_flatten}
use Rattle.std.specs.Slice.{IsItemAt}
use Rattle.std.proofs.slice.Searches.{copied_from_item}
use Rattle.std.specs.Map.{update}
use Rattle.rules.specs.declared.rows.ClassRow.{ClassRow}
use Rattle.rules.specs.declared.rows.SecurityRow.{SecurityRow}
use Rattle.rules.specs.Tables.{Table, rows_of, row_at}
use Rattle.sheets.specs.Drafts.{no_rows, with_class, with_security}

row_is : {A : Type 0} (rows : List (Option A)) (n : ℕ) → get_or rows n None ≡ row_at rows n
row_is [] n = refl
row_is (o ∷ rest) zero = refl
row_is (o ∷ rest) (suc n) = row_is rest n

row_got : {A : Type 0} (rows : List (Option A)) (n : ℕ) → option_flatten (slice_get rows n) ≡ row_at rows n
row_got [] n = refl
row_got (o ∷ rest) zero = refl
row_got (o ∷ rest) (suc n) = row_got rest n

-- the row at a place, as it is borrowed from the list
pub row_lent : {A : Type 0} (rows : List (Option A)) (n : ℕ) (r : Option (Bor (Option A))) → IsItemAt rows n r → option_flatten (option_copied r) ≡ row_at rows n
row_lent rows n r e = ap option_flatten (copied_from_item rows n n r (λ h. h) (λ h. h) e) ∙ row_got rows n

row_put : {A : Type 0} (rows : List (Option A)) (i : ℕ) (o : Option A) → i < length rows → (n : ℕ) → row_at (set rows i o) n ≡ update eqb (row_at rows) i o n
row_put rows i o h n =
    sym (row_is (set rows i o) n)
    ∙ ⊎_elim
    (λ e. ap (λ m. get_or (set rows i o) m None) e ∙ get_or-set_same rows i o None h ∙ sym (cond-true (eqb i n) o (row_at rows n) (eq-eqb i n (sym e))))
    (λ ne. get_or-set_other rows i n o None ne ∙ row_is rows n ∙ sym (update_apart (row_at rows) i o n ne))
    (cases_eq n i)

row_none : {A : Type 0} (count n : ℕ) → row_at {A = A} (replicate count None) n ≡ None
row_none zero n = refl
row_none (suc count) zero = refl
row_none (suc count) (suc n) = row_none count n

-- ---- a whole table

pub nothing_filled : (classes securities : ℕ) → rows_of (record { class_rows = replicate classes None; security_rows = replicate securities None; pair_rows = [] }) ≡ no_rows
nothing_filled classes securities = λ i. record { classes = λ c. row_none classes c i; securities = λ s. row_none securities s i; pairs = [] }

pub class_put : (t : Table) (class : ℕ) (row : ClassRow) → class < length t.class_rows
    → rows_of (record { class_rows = set t.class_rows class (Some row); security_rows = t.security_rows; pair_rows = t.pair_rows }) ≡ with_class (rows_of t) class row
class_put t class row h = λ i. record { classes = λ c. row_put t.class_rows class (Some row) h c i; securities = row_at t.security_rows; pairs = t.pair_rows }

pub security_put : (t : Table) (security : ℕ) (row : SecurityRow) → security < length t.security_rows
    → rows_of (record { class_rows = t.class_rows; security_rows = set t.security_rows security (Some row); pair_rows = t.pair_rows }) ≡ with_security (rows_of t) security row
security_put t security row h = λ i. record { classes = row_at t.class_rows; securities = λ s. row_put t.security_rows security (Some row) h s i; pairs = t.pair_rows }
