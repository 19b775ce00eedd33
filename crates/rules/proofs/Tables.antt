-- The test of a table passes exactly where its rows obey the laws. Assumes nothing.
use Rattle.std.proofs.Common.{◌≡◌, ℕ, zero, suc, ◌<◌, ◌≤◌, Bool, true, eqb, List, [], ◌∷◌, length, Some, None, Option, refl, subst}
use Rattle.std.proofs.lemmas.Bool.{and_parts, and_from, ltb-true, lt-ltb, leb-true, le-leb, eqb-true, eq-eqb, ne_eqb, eqb-false, not-true, not_from_false, false≢true}
use Rattle.terms.specs.declared.choice.ClassKind.{ClassKind}
use Rattle.terms.specs.declared.choice.ClassKind.TheVariants.{Liquidity, Duration}
use Rattle.terms.specs.Limits.{security_count, class_count, pair_limit, whole, price_limit, rate_limit, duration_limit, duration_one}
use Rattle.rules.specs.declared.rows.ClassRow.{ClassRow}
use Rattle.rules.specs.declared.rows.SecurityRow.{SecurityRow}
use Rattle.rules.specs.declared.rows.PairRow.{PairRow}
use Rattle.rules.specs.Rows.{Rows, Lawful, LawfulClass, LawfulSecurity, LawfulPair, Every, Present, Has, figure}
use Rattle.rules.specs.Tables.{Table, rows_of, row_at, if_liquidity, same_kind, present_test, has_test, security_figures, pair_classes, pair_credit, class_test, security_test, pair_test, rows_test, every_test, table_test}
use Rattle.rules.specs.Laws.{TestDecides}

-- ---- tests over optional rows and lists

present_passes : {A : Type 0} (P : A → Type 0) (t : A → Bool) → ((a : A) → t a ≡ true → P a) → (o : Option A) → present_test t o ≡ true → Present P o
present_passes P t h (Some a) e = h a e
present_passes P t h None e = tt

passes_present : {A : Type 0} (P : A → Type 0) (t : A → Bool) → ((a : A) → P a → t a ≡ true) → (o : Option A) → Present P o → present_test t o ≡ true
passes_present P t h (Some a) p = h a p
passes_present P t h None p = refl

has_passes : {A : Type 0} (P : A → Type 0) (t : A → Bool) → ((a : A) → t a ≡ true → P a) → (o : Option A) → has_test t o ≡ true → Has P o
has_passes P t h (Some a) e = h a e
has_passes P t h None e = false≢true e

passes_has : {A : Type 0} (P : A → Type 0) (t : A → Bool) → ((a : A) → P a → t a ≡ true) → (o : Option A) → Has P o → has_test t o ≡ true
passes_has P t h (Some a) p = h a p
passes_has P t h None p = absurd p

rows_pass : {A : Type 0} (t : ℕ → A → Bool) (rows : List (Option A)) → rows_test t rows ≡ true → (c : ℕ) → present_test (t c) (row_at rows c) ≡ true
rows_pass t [] h c = refl
rows_pass t (o ∷ rest) h zero = (and_parts (present_test (t 0) o) (rows_test (λ i. t (suc i)) rest) h).0
rows_pass t (o ∷ rest) h (suc c) = rows_pass (λ i. t (suc i)) rest (and_parts (present_test (t 0) o) (rows_test (λ i. t (suc i)) rest) h).1 c

pass_rows : {A : Type 0} (t : ℕ → A → Bool) (rows : List (Option A)) → ((c : ℕ) → present_test (t c) (row_at rows c) ≡ true) → rows_test t rows ≡ true
pass_rows t [] h = refl
pass_rows t (o ∷ rest) h = and_from (present_test (t 0) o) (rows_test (λ i. t (suc i)) rest) (h 0) (pass_rows (λ i. t (suc i)) rest (λ c. h (suc c)))

every_passes : {A : Type 0} (P : A → Type 0) (t : A → Bool) → ((a : A) → t a ≡ true → P a) → (xs : List A) → every_test t xs ≡ true → Every P xs
every_passes P t h [] e = tt
every_passes P t h (a ∷ rest) e = (h a (and_parts (t a) (every_test t rest) e).0, every_passes P t h rest (and_parts (t a) (every_test t rest) e).1)

passes_every : {A : Type 0} (P : A → Type 0) (t : A → Bool) → ((a : A) → P a → t a ≡ true) → (xs : List A) → Every P xs → every_test t xs ≡ true
passes_every P t h [] p = refl
passes_every P t h (a ∷ rest) p = and_from (t a) (every_test t rest) (h a p.0) (passes_every P t h rest p.1)

-- ---- the laws of one row

plain_passes : (k : ClassKind) (m n : ℕ) → if_liquidity k (eqb m n) ≡ true → k ≡ Liquidity → m ≡ n
plain_passes Liquidity m n t e = eqb-true m n t
plain_passes Duration m n t e = cc

passes_plain : (k : ClassKind) (m n : ℕ) → (k ≡ Liquidity → m ≡ n) → if_liquidity k (eqb m n) ≡ true
passes_plain Liquidity m n h = eq-eqb m n (h refl)
passes_plain Duration m n h = refl

same_passes : (j k : ClassKind) → same_kind j k ≡ true → j ≡ k
same_passes Liquidity Liquidity t = refl
same_passes Liquidity Duration t = absurd (false≢true t)
same_passes Duration Liquidity t = absurd (false≢true t)
same_passes Duration Duration t = refl

passes_same : (j k : ClassKind) → j ≡ k → same_kind j k ≡ true
passes_same Liquidity Liquidity e = refl
passes_same Liquidity Duration e = cc
passes_same Duration Liquidity e = cc
passes_same Duration Duration e = refl

pub class_passes : (c : ℕ) (r : ClassRow) → class_test c r ≡ true → LawfulClass c r
class_passes c r t =
    let t₁ = and_parts _ _ t in
    let t₂ = and_parts _ _ t₁.1 in
    let t₃ = and_parts _ _ t₂.1 in
    let t₄ = and_parts _ _ t₃.1 in
    record {
      number = ltb-true c class_count t₁.0;
      y_small = leb-true r.y whole t₂.0;
      x_small = leb-true r.x whole t₃.0;
      dep_small = leb-true r.dep whole t₄.0;
      no_dep = plain_passes r.kind r.dep 0 t₄.1;
    }

pub passes_class : (c : ℕ) (r : ClassRow) → LawfulClass c r → class_test c r ≡ true
passes_class c r l =
    and_from _ _ (lt-ltb c class_count l.number)
    (and_from _ _ (le-leb r.y whole l.y_small)
    (and_from _ _ (le-leb r.x whole l.x_small)
    (and_from _ _ (le-leb r.dep whole l.dep_small) (passes_plain r.kind r.dep 0 l.no_dep))))

-- a security's figures, beside a class of this kind
pub record Priced (kind : ClassKind) (r : SecurityRow) : Type 0 where
  pub price_some : 1 ≤ r.price
  pub price_small : r.price ≤ price_limit
  pub rate_some : 1 ≤ r.rate
  pub rate_small : r.rate ≤ rate_limit
  pub duration_small : r.duration ≤ duration_limit
  pub plain : kind ≡ Liquidity → r.duration ≡ duration_one

figures_pass : (k : ClassKind) (r : SecurityRow) → security_figures k r ≡ true → Priced k r
figures_pass k r t =
    let t₁ = and_parts _ _ t in
    let t₂ = and_parts _ _ t₁.1 in
    let t₃ = and_parts _ _ t₂.1 in
    let t₄ = and_parts _ _ t₃.1 in
    let t₅ = and_parts _ _ t₄.1 in
    record {
      price_some = leb-true 1 r.price t₁.0;
      price_small = leb-true r.price price_limit t₂.0;
      rate_some = leb-true 1 r.rate t₃.0;
      rate_small = leb-true r.rate rate_limit t₄.0;
      duration_small = leb-true r.duration duration_limit t₅.0;
      plain = plain_passes k r.duration duration_one t₅.1;
    }

pass_figures : (k : ClassKind) (r : SecurityRow) → Priced k r → security_figures k r ≡ true
pass_figures k r l =
    and_from _ _ (le-leb 1 r.price l.price_some)
    (and_from _ _ (le-leb r.price price_limit l.price_small)
    (and_from _ _ (le-leb 1 r.rate l.rate_some)
    (and_from _ _ (le-leb r.rate rate_limit l.rate_small)
    (and_from _ _ (le-leb r.duration duration_limit l.duration_small) (passes_plain k r.duration duration_one l.plain)))))

priced_security_lem : (rows : Rows) (s : ℕ) (r : SecurityRow) → s < security_count → (o : Option ClassRow) → o ≡ rows.classes r.class → Has (λ row. Priced row.kind r) o → LawfulSecurity rows s r
priced_security_lem rows s r n (Some row) e p = record {
  number = n;
  price_some = p.price_some;
  price_small = p.price_small;
  rate_some = p.rate_some;
  rate_small = p.rate_small;
  duration_small = p.duration_small;
  plain = subst (Has (λ row. row.kind ≡ Liquidity → r.duration ≡ duration_one)) e p.plain;
}
priced_security_lem rows s r n None e p = absurd p

security_priced : (rows : Rows) (s : ℕ) (r : SecurityRow) → LawfulSecurity rows s r → (o : Option ClassRow) → Has (λ row. row.kind ≡ Liquidity → r.duration ≡ duration_one) o → Has (λ row. Priced row.kind r) o
security_priced rows s r l (Some row) p = record {
  price_some = l.price_some;
  price_small = l.price_small;
  rate_some = l.rate_some;
  rate_small = l.rate_small;
  duration_small = l.duration_small;
  plain = p;
}
security_priced rows s r l None p = p

pub security_passes : (rows : Rows) (s : ℕ) (r : SecurityRow) → security_test rows.classes s r ≡ true → LawfulSecurity rows s r
security_passes rows s r t =
    let t₁ = and_parts _ _ t in
    priced_security_lem rows s r (ltb-true s security_count t₁.0) (rows.classes r.class) refl
    (has_passes (λ row. Priced row.kind r) (λ row. security_figures row.kind r) (λ row e. figures_pass row.kind r e) (rows.classes r.class) t₁.1)

pub passes_security : (rows : Rows) (s : ℕ) (r : SecurityRow) → LawfulSecurity rows s r → security_test rows.classes s r ≡ true
passes_security rows s r l =
    and_from _ _ (lt-ltb s security_count l.number)
    (passes_has (λ row. Priced row.kind r) (λ row. security_figures row.kind r) (λ row p. pass_figures row.kind r p) (rows.classes r.class)
    (security_priced rows s r l (rows.classes r.class) l.plain))

pub pair_passes : (rows : Rows) (p : PairRow) → pair_test rows.classes p ≡ true → LawfulPair rows p
pair_passes rows p t =
    let t₁ = and_parts (pair_classes rows.classes p) (pair_credit rows.classes p) t in
    let t₂ = and_parts _ _ t₁.0 in
    let t₃ = and_parts _ _ t₁.1 in
    record {
      apart = eqb-false p.first p.second (not-true (eqb p.first p.second) t₂.0);
      kinds = has_passes (λ one. Has (λ other. one.kind ≡ other.kind) (rows.classes p.second)) (λ one. has_test (λ other. same_kind one.kind other.kind) (rows.classes p.second))
          (λ one q. has_passes (λ other. one.kind ≡ other.kind) (λ other. same_kind one.kind other.kind) (λ other. same_passes one.kind other.kind) (rows.classes p.second) q)
          (rows.classes p.first) t₂.1;
      crt_first = leb-true p.crt (figure (λ r. r.y) (rows.classes p.first)) t₃.0;
      crt_second = leb-true p.crt (figure (λ r. r.y) (rows.classes p.second)) t₃.1;
    }

pub passes_pair : (rows : Rows) (p : PairRow) → LawfulPair rows p → pair_test rows.classes p ≡ true
passes_pair rows p l =
    and_from (pair_classes rows.classes p) (pair_credit rows.classes p)
    (and_from _ _ (not_from_false (eqb p.first p.second) (ne_eqb p.first p.second l.apart))
    (passes_has (λ one. Has (λ other. one.kind ≡ other.kind) (rows.classes p.second)) (λ one. has_test (λ other. same_kind one.kind other.kind) (rows.classes p.second))
    (λ one q. passes_has (λ other. one.kind ≡ other.kind) (λ other. same_kind one.kind other.kind) (λ other. passes_same one.kind other.kind) (rows.classes p.second) q)
    (rows.classes p.first) l.kinds))
    (and_from _ _ (le-leb p.crt (figure (λ r. r.y) (rows.classes p.first)) l.crt_first) (le-leb p.crt (figure (λ r. r.y) (rows.classes p.second)) l.crt_second))

-- ---- a whole table

pub table_lawful : (t : Table) → table_test t ≡ true → Lawful (rows_of t)
table_lawful t h =
    let t₁ = and_parts _ _ h in
    let t₂ = and_parts _ _ t₁.1 in
    let t₃ = and_parts _ _ t₂.1 in
    record {
      of_classes = λ c. present_passes (LawfulClass c) (class_test c) (class_passes c) (row_at t.class_rows c) (rows_pass class_test t.class_rows t₁.0 c);
      of_securities = λ s. present_passes (LawfulSecurity (rows_of t) s) (security_test (row_at t.class_rows) s) (security_passes (rows_of t) s) (row_at t.security_rows s)
          (rows_pass (security_test (row_at t.class_rows)) t.security_rows t₂.0 s);
      of_pairs = every_passes (LawfulPair (rows_of t)) (pair_test (row_at t.class_rows)) (pair_passes (rows_of t)) t.pair_rows t₃.0;
      few_pairs = leb-true (length t.pair_rows) pair_limit t₃.1;
    }

pub lawful_passes : (t : Table) → Lawful (rows_of t) → table_test t ≡ true
lawful_passes t l =
    and_from _ _ (pass_rows class_test t.class_rows (λ c. passes_present (LawfulClass c) (class_test c) (passes_class c) (row_at t.class_rows c) (l.of_classes c)))
    (and_from _ _ (pass_rows (security_test (row_at t.class_rows)) t.security_rows
    (λ s. passes_present (LawfulSecurity (rows_of t) s) (security_test (row_at t.class_rows) s) (passes_security (rows_of t) s) (row_at t.security_rows s) (l.of_securities s)))
    (and_from _ _ (passes_every (LawfulPair (rows_of t)) (pair_test (row_at t.class_rows)) (passes_pair (rows_of t)) t.pair_rows l.of_pairs)
    (le-leb (length t.pair_rows) pair_limit l.few_pairs)))

pub test_decides : TestDecides
test_decides t = (table_lawful t, lawful_passes t)
