-- A row that the questions let pass keeps the laws of a sheet. Assumes nothing.
use Rattle.std.proofs.Common.{◌≡◌, ℕ, ◌≤◌, eqb, List, [], ◌∷◌, ◌++◌, Some, None, Option, sym, ap, ◌∙◌, subst, arith}
use Rattle.std.proofs.lemmas.List.{length_push}
use Rattle.std.proofs.lemmas.Bool.{and_from, lt-ltb, eqb-true, cond_both}
use Rattle.std.specs.Map.{update}
use Rattle.terms.specs.Limits.{security_count, class_count}
use Rattle.rules.specs.declared.rows.ClassRow.{ClassRow}
use Rattle.rules.specs.declared.rows.SecurityRow.{SecurityRow}
use Rattle.rules.specs.declared.rows.PairRow.{PairRow}
use Rattle.rules.specs.Rows.{Rows, Lawful, LawfulClass, LawfulSecurity, LawfulPair, Every, Present, Has, figure}
use Rattle.rules.specs.Tables.{pair_classes, pair_credit}
use Rattle.rules.proofs.Walk.{every_map}
use Rattle.rules.proofs.Tables.{class_passes, security_passes, pair_passes}
use Rattle.sheets.specs.Drafts.{with_class, with_security, with_pair, class_refusal, security_refusal, pair_refusal}
use Rattle.sheets.proofs.Asked.{class_asked, security_asked, pair_asked}

has_weaker : {A : Type 0} (P Q : A → Type 0) → ((a : A) → P a → Q a) → (o : Option A) → Has P o → Has Q o
has_weaker P Q f (Some a) h = f a h
has_weaker P Q f None h = h

present_weaker : {A : Type 0} (P Q : A → Type 0) → ((a : A) → P a → Q a) → (o : Option A) → Present P o → Present Q o
present_weaker P Q f (Some a) h = f a h
present_weaker P Q f None h = tt

every_push : {A : Type 0} (P : A → Type 0) (xs : List A) (a : A) → Every P xs → P a → Every P (xs ++ a ∷ [])
every_push P [] a h p = (p, tt)
every_push P (x ∷ rest) a h p = (h.0, every_push P rest a h.1 p)

-- ---- classes that are there stay as they are

pub record Grows (before after : ℕ → Option ClassRow) : Type 1 where
  pub has : (P : ClassRow → Type 0) (c : ℕ) → Has P (before c) → Has P (after c)
  pub figures : (f : ClassRow → ℕ) (c : ℕ) → figure f (before c) ≤ figure f (after c)

same_classes : (classes : ℕ → Option ClassRow) → Grows classes classes
same_classes classes = record { has = λ P c h. h; figures = λ f c. omega arith }

one_more : (classes : ℕ → Option ClassRow) (class : ℕ) (row : ClassRow) → classes class ≡ None → Grows classes (update eqb classes class (Some row))
one_more classes class row new = record {
  has = λ P c h. cond_both (eqb class c) (Some row) (classes c) (Has P)
      (λ e. let none : Has P None = subst (Has P) new (subst (λ (n : ℕ). Has P (classes n)) (sym (eqb-true class c e)) h) in absurd none) (λ e. h);
  figures = λ f c. cond_both (eqb class c) (Some row) (classes c) (λ o. figure f (classes c) ≤ figure f o)
      (λ e. let none : figure f (classes c) ≡ 0 = ap (λ n. figure f (classes n)) (sym (eqb-true class c e)) ∙ ap (figure f) new in omega arith) (λ e. omega arith);
}

module _ (before after : Rows) (grows : Grows before.classes after.classes) where
  security_kept : (s : ℕ) (r : SecurityRow) → LawfulSecurity before s r → LawfulSecurity after s r
  security_kept s r l = record {
    number = l.number;
    price_some = l.price_some;
    price_small = l.price_small;
    rate_some = l.rate_some;
    rate_small = l.rate_small;
    duration_small = l.duration_small;
    plain = grows.has _ r.class l.plain;
  }

  pair_kept : (p : PairRow) → LawfulPair before p → LawfulPair after p
  pair_kept p l = record {
    apart = l.apart;
    kinds = grows.has (λ one. Has (λ other. one.kind ≡ other.kind) (after.classes p.second)) p.first
        (has_weaker (λ one. Has (λ other. one.kind ≡ other.kind) (before.classes p.second)) (λ one. Has (λ other. one.kind ≡ other.kind) (after.classes p.second))
        (λ one h. grows.has (λ other. one.kind ≡ other.kind) p.second h) (before.classes p.first) l.kinds);
    crt_first = omega (arith, l.crt_first, grows.figures (λ r. r.y) p.first);
    crt_second = omega (arith, l.crt_second, grows.figures (λ r. r.y) p.second);
  }

  securities_kept : (o : Option SecurityRow) (s : ℕ) → Present (LawfulSecurity before s) o → Present (LawfulSecurity after s) o
  securities_kept o s h = present_weaker (LawfulSecurity before s) (LawfulSecurity after s) (security_kept s) o h

  pairs_kept : (ps : List PairRow) → Every (LawfulPair before) ps → Every (LawfulPair after) ps
  pairs_kept ps h = every_map {P = LawfulPair before} {Q = LawfulPair after} pair_kept ps h

-- ---- the rows with one more

pub class_keeps : (rows : Rows) → Lawful rows → (class : ℕ) (row : ClassRow) → class_refusal rows class row ≡ None → Lawful (with_class rows class row)
class_keeps rows l class row e =
    let q = class_asked rows class row e in
    let more : Rows = with_class rows class row in
    let grows = one_more rows.classes class row q.new in
    record {
      of_classes = λ c. cond_both (eqb class c) (Some row) (rows.classes c) (Present (LawfulClass c))
          (λ t. subst (λ n. LawfulClass n row) (eqb-true class c t) (class_passes class row (and_from _ _ (lt-ltb class class_count q.number) q.figures))) (λ t. l.of_classes c);
      of_securities = λ s. securities_kept rows more grows (rows.securities s) s (l.of_securities s);
      of_pairs = pairs_kept rows more grows rows.pairs l.of_pairs;
      few_pairs = l.few_pairs;
    }

pub security_keeps : (rows : Rows) → Lawful rows → (security : ℕ) (row : SecurityRow) → security_refusal rows security row ≡ None → Lawful (with_security rows security row)
security_keeps rows l security row e =
    let q = security_asked rows security row e in
    let more : Rows = with_security rows security row in
    let grows = same_classes rows.classes in
    record {
      of_classes = l.of_classes;
      of_securities = λ s. cond_both (eqb security s) (Some row) (rows.securities s) (Present (LawfulSecurity more s))
          (λ t. subst (λ n. LawfulSecurity more n row) (eqb-true security s t) (security_passes more security row (and_from _ _ (lt-ltb security security_count q.number) q.figures)))
          (λ t. securities_kept rows more grows (rows.securities s) s (l.of_securities s));
      of_pairs = pairs_kept rows more grows rows.pairs l.of_pairs;
      few_pairs = l.few_pairs;
    }

pub pair_keeps : (rows : Rows) → Lawful rows → (pair : PairRow) → pair_refusal rows pair ≡ None → Lawful (with_pair rows pair)
pair_keeps rows l pair e =
    let q = pair_asked rows pair e in
    let more : Rows = with_pair rows pair in
    let grows = same_classes rows.classes in
    record {
      of_classes = l.of_classes;
      of_securities = λ s. securities_kept rows more grows (rows.securities s) s (l.of_securities s);
      of_pairs = every_push (LawfulPair more) rows.pairs pair (pairs_kept rows more grows rows.pairs l.of_pairs)
          (pair_passes more pair (and_from (pair_classes rows.classes pair) (pair_credit rows.classes pair) q.classes q.credit));
      few_pairs = let long = length_push rows.pairs pair in let room = q.room in omega arith;
    }
