-- Rows that are written out as lists, and one test that computes whether they obey the laws of a sheet. Assumes nothing.
use Rattle.std.specs.Prelude.{ℕ, zero, suc, Bool, true, false, not, ◌&&◌, List, [], ◌∷◌, length, Some, None, Option, ◌==◌, nat_le, nat_lt}
use Rattle.terms.specs.declared.choice.ClassKind.{ClassKind}
use Rattle.terms.specs.declared.choice.ClassKind.TheVariants.{Liquidity, Duration}
use Rattle.terms.specs.Limits.{security_count, class_count, pair_limit, whole, price_limit, rate_limit, duration_limit, duration_one}
use Rattle.rules.specs.declared.rows.ClassRow.{ClassRow}
use Rattle.rules.specs.declared.rows.SecurityRow.{SecurityRow}
use Rattle.rules.specs.declared.rows.PairRow.{PairRow}
use Rattle.rules.specs.Rows.{Rows, figure}

-- the row at a place of a list
abbrev pub row_at : {A : Type 0} → List (Option A) → ℕ → Option A
row_at [] n = None
row_at (a ∷ rest) zero = a
row_at (a ∷ rest) (suc n) = row_at rest n

-- a sheet that is written out: the rows by number, and the pairs in their order
pub record Table : Type 0 where
  pub class_rows : List (Option ClassRow)
  pub security_rows : List (Option SecurityRow)
  pub pair_rows : List PairRow

abbrev pub rows_of : Table → Rows
rows_of t = record { classes = row_at t.class_rows; securities = row_at t.security_rows; pairs = t.pair_rows }

-- ---- the laws of one row, as tests

-- what is asked of liquidity alone
abbrev pub if_liquidity : ClassKind → Bool → Bool
if_liquidity Liquidity t = t
if_liquidity Duration t = true

abbrev pub same_kind : ClassKind → ClassKind → Bool
same_kind Liquidity Liquidity = true
same_kind Liquidity Duration = false
same_kind Duration Liquidity = false
same_kind Duration Duration = true

-- the test passes at the row, if there is one
abbrev pub present_test : {A : Type 0} → (A → Bool) → Option A → Bool
present_test t (Some a) = t a
present_test t None = true

-- there is a row, and the test passes at it
abbrev pub has_test : {A : Type 0} → (A → Bool) → Option A → Bool
has_test t (Some a) = t a
has_test t None = false

-- the figures of a class
abbrev pub class_figures : ClassRow → Bool
class_figures r = nat_le r.y whole && (nat_le r.x whole && (nat_le r.dep whole && if_liquidity r.kind (r.dep == 0)))

-- the figures of a security whose class is of this kind
abbrev pub security_figures : ClassKind → SecurityRow → Bool
security_figures kind r =
    nat_le 1 r.price && (nat_le r.price price_limit && (nat_le 1 r.rate && (nat_le r.rate rate_limit && (nat_le r.duration duration_limit
    && if_liquidity kind (r.duration == duration_one)))))

-- both classes of a pair have rows, differ, and share a kind
abbrev pub pair_classes : (ℕ → Option ClassRow) → PairRow → Bool
pair_classes classes p =
    not (p.first == p.second) && has_test (λ one. has_test (λ other. same_kind one.kind other.kind) (classes p.second)) (classes p.first)

-- the crt of a pair is at most the y of both classes
abbrev pub pair_credit : (ℕ → Option ClassRow) → PairRow → Bool
pair_credit classes p = nat_le p.crt (figure (λ r. r.y) (classes p.first)) && nat_le p.crt (figure (λ r. r.y) (classes p.second))

-- ---- the laws of a row at its place

abbrev pub class_test : ℕ → ClassRow → Bool
class_test c r = nat_lt c class_count && class_figures r

abbrev pub security_test : (ℕ → Option ClassRow) → ℕ → SecurityRow → Bool
security_test classes s r = nat_lt s security_count && has_test (λ row. security_figures row.kind r) (classes r.class)

abbrev pub pair_test : (ℕ → Option ClassRow) → PairRow → Bool
pair_test classes p = pair_classes classes p && pair_credit classes p

-- ---- the laws of a whole table

-- the test passes at each row and its place
abbrev pub rows_test : {A : Type 0} → (ℕ → A → Bool) → List (Option A) → Bool
rows_test t [] = true
rows_test t (o ∷ rest) = present_test (t 0) o && rows_test (λ i. t (suc i)) rest

abbrev pub every_test : {A : Type 0} → (A → Bool) → List A → Bool
every_test t [] = true
every_test t (a ∷ rest) = t a && every_test t rest

abbrev pub table_test : Table → Bool
table_test t =
    rows_test class_test t.class_rows
    && (rows_test (security_test (row_at t.class_rows)) t.security_rows
    && (every_test (pair_test (row_at t.class_rows)) t.pair_rows && nat_le (length t.pair_rows) pair_limit))
