-- The sums of the classes, one security more at a time. Assumes nothing.
use Rattle.std.proofs.Common.{◌≡◌, ℕ, ◌+◌, ◌<◌, ◌≤◌, false, cond, eqb, List, length, get_or, set, ℤ, is_some, Some, None, Option, sym, refl, ap, ◌∙◌, subst, ap₂, ⊎_elim, arith, length-set}
use borrow.Author.Differences.{up, down}
use Rattle.std.proofs.lemmas.List.{get_or-set_same, get_or-set_other}
use Rattle.std.proofs.lemmas.Bool.{cases_eq, eq-eqb, ne_eqb, cond-true, cond-false}
use Rattle.terms.specs.Limits.{security_count, class_count}
use Rattle.terms.specs.declared.choice.ClassKind.{ClassKind}
use Rattle.rules.specs.declared.position.PricedSecurity.{PricedSecurity}
use Rattle.rules.specs.declared.rows.ClassRow.{ClassRow}
use Rattle.rules.specs.declared.rows.SecurityRow.{SecurityRow}
use Rattle.rules.specs.Rows.{Rows, Lawful, LawfulClass, Present}
use Rattle.rules.specs.Margin.{AmountsSmall, exact, factor, factor_in, has_class, worth}
use Rattle.rules.proofs.Sums.{sum_more, sum_none}
use Rattle.sheets.specs.Readings.{beside, with_kind}
use Rattle.exact.specs.declared.records.Sums.{Sums}
use Rattle.exact.specs.Sizes.{worths_limit}
use Rattle.exact.specs.Classes.{nothing, plus, worth_at, share, sums_to, SumsTo}
use Rattle.exact.proofs.Small.{sums_small}

-- ---- a security that has a row, and its class

pub record Priced (rows : Rows) (o : Option SecurityRow) (r : SecurityRow) (k : ClassKind) : Type 0 where
  pub row : o ≡ Some r
  pub class : ClassRow
  pub listed : rows.classes r.class ≡ Some class
  pub kind : class.kind ≡ k

priced_case : (rows : Rows) (q : SecurityRow) (o : Option ClassRow) → rows.classes q.class ≡ o → (p : PricedSecurity) → beside q o ≡ Some p → Priced rows (Some q) p.row p.kind
priced_case rows q (Some class) h p e =
    let both : ◌≡◌ {A = PricedSecurity} (record { row = q; kind = class.kind }) p = cc in
    let same : q ≡ p.row = ap (λ (x : PricedSecurity). x.row) both in
    record { row = ap Some same; class = class; listed = subst (λ (r : SecurityRow). rows.classes r.class ≡ Some class) same h; kind = ap (λ (x : PricedSecurity). x.kind) both }
priced_case rows q None h p e = absurd (let z : ◌≡◌ {A = ℕ} 0 1 = cc in omega arith)

pub priced : (rows : Rows) (o : Option SecurityRow) (p : PricedSecurity) → with_kind rows o ≡ Some p → Priced rows o p.row p.kind
priced rows (Some q) p e = priced_case rows q (rows.classes q.class) refl p e
priced rows None p e = absurd (let z : ◌≡◌ {A = ℕ} 0 1 = cc in omega arith)

pub unlisted : (o : Option SecurityRow) → is_some o ≡ false → o ≡ None
unlisted (Some r) e = absurd (let z : ◌≡◌ {A = ℕ} 0 1 = cc in omega arith)
unlisted None e = refl

pub class_below : (rows : Rows) → Lawful rows → (o : Option SecurityRow) (r : SecurityRow) (k : ClassKind) → Priced rows o r k → r.class < class_count
class_below rows lawful o r k p = (subst (Present (LawfulClass r.class)) p.listed (lawful.of_classes r.class)).number

-- what it adds to the sums of a class
share_is : (rows : Rows) (units : ℕ → ℕ) (c s : ℕ) (r : SecurityRow) (k : ClassKind) → Priced rows (rows.securities s) r k →
    share rows units c s ≡ cond (eqb r.class c) (exact.value (units s) r.price r.rate (factor k r.duration)) 0
share_is rows units c s r k p =
    ap (λ (o : Option SecurityRow). cond (has_class c o) (worth exact rows (units s) o) 0) p.row
    ∙ ap (λ (o : Option ClassRow). cond (eqb r.class c) (exact.value (units s) r.price r.rate (factor_in o r.duration)) 0) p.listed
    ∙ ap (λ (j : ClassKind). cond (eqb r.class c) (exact.value (units s) r.price r.rate (factor j r.duration)) 0) p.kind

-- ---- one security more

abbrev sums : ℕ → ℕ → Sums
sums b s = record { bought = b; sold = s }

to_more : (rows : Rows) (nets : ℕ → ℤ) (n c : ℕ) →
    sums_to rows nets (n + 1) c ≡ plus (sums_to rows nets n c) (record { bought = share rows (λ s. up (nets s)) c n; sold = share rows (λ s. down (nets s)) c n })
to_more rows nets n c = ap₂ sums (sum_more n (share rows (λ s. up (nets s)) c)) (sum_more n (share rows (λ s. down (nets s)) c))

plus_none : (a b : Sums) → b.bought ≡ 0 → b.sold ≡ 0 → plus a b ≡ a
plus_none a b e f = ap₂ sums (omega arith) (omega arith)

module _ (rows : Rows) (nets : ℕ → ℤ) where
  pub summed_none : (xs : List Sums) → length xs ≡ class_count → ((c : ℕ) → c < class_count → get_or xs c nothing ≡ nothing) → SumsTo rows nets 0 xs
  summed_none xs l h = record { long = l; each = λ c b. h c b ∙ sym (ap₂ sums (sum_none (share rows (λ s. up (nets s)) c)) (sum_none (share rows (λ s. down (nets s)) c))) }

  pub summed_past : (s : ℕ) (xs : List Sums) → rows.securities s ≡ None → SumsTo rows nets s xs → SumsTo rows nets (s + 1) xs
  summed_past s xs e h =
      let none : (units : ℕ → ℕ) (c : ℕ) → share rows units c s ≡ 0 = λ units c. ap (λ (o : Option SecurityRow). cond (has_class c o) (worth exact rows (units s) o) 0) e in
      record {
        long = h.long;
        each = λ c l. h.each c l ∙ sym (to_more rows nets s c ∙ plus_none (sums_to rows nets s c) _ (none (λ s. up (nets s)) c) (none (λ s. down (nets s)) c));
      }

  module _ (s : ℕ) (r : SecurityRow) (k : ClassKind) (p : Priced rows (rows.securities s) r k) where
    abbrev here : Sums
    here = worth_at (nets s) r k

    at_class : sums_to rows nets (s + 1) r.class ≡ plus (sums_to rows nets s r.class) here
    at_class =
        let t = eq-eqb r.class r.class refl in
        to_more rows nets s r.class
        ∙ ap₂ (λ (b d : ℕ). plus (sums_to rows nets s r.class) (sums b d))
        (share_is rows (λ s. up (nets s)) r.class s r k p ∙ cond-true (eqb r.class r.class) here.bought 0 t)
        (share_is rows (λ s. down (nets s)) r.class s r k p ∙ cond-true (eqb r.class r.class) here.sold 0 t)

    at_other : (c : ℕ) → (c ≡ r.class → ⊥) → sums_to rows nets (s + 1) c ≡ sums_to rows nets s c
    at_other c d =
        let t = ne_eqb r.class c (λ e. d (sym e)) in
        to_more rows nets s c
        ∙ plus_none (sums_to rows nets s c) _
        (share_is rows (λ s. up (nets s)) c s r k p ∙ cond-false (eqb r.class c) here.bought 0 t)
        (share_is rows (λ s. down (nets s)) c s r k p ∙ cond-false (eqb r.class c) here.sold 0 t)

    pub summed_more : (xs : List Sums) (x : Sums) → r.class < class_count → x ≡ plus (get_or xs r.class nothing) here → SumsTo rows nets s xs → SumsTo rows nets (s + 1) (set xs r.class x)
    summed_more xs x b e h = record {
      long = length-set xs r.class x ∙ h.long;
      each = λ c l. ⊎_elim
          (λ (q : c ≡ r.class). subst (λ (i : ℕ). get_or (set xs r.class x) i nothing ≡ sums_to rows nets (s + 1) i) (sym q)
          (get_or-set_same xs r.class x nothing (omega (arith, h.long)) ∙ e ∙ ap (λ (w : Sums). plus w here) (h.each r.class b) ∙ sym at_class))
          (λ (d : c ≡ r.class → ⊥). get_or-set_other xs r.class c x nothing d ∙ h.each c l ∙ sym (at_other c d))
          (cases_eq c r.class);
    }

    -- the sums with it are small
    pub room : Lawful rows → AmountsSmall rows nets → s < security_count → r.class < class_count → (xs : List Sums) (w : Sums) → w ≡ here → SumsTo rows nets s xs →
        ((get_or xs r.class nothing).bought + w.bought ≤ worths_limit) × ((get_or xs r.class nothing).sold + w.sold ≤ worths_limit)
    room lawful amounts l b xs w e h =
        let next : sums_to rows nets (s + 1) r.class ≡ plus (get_or xs r.class nothing) w = at_class ∙ ap₂ plus (sym (h.each r.class b)) (sym e) in
        let small = sums_small rows lawful nets amounts (s + 1) r.class in
        let bought = ap (λ (x : Sums). x.bought) next in
        let sold = ap (λ (x : Sums). x.sold) next in
        (omega (arith, small, bought, sold), omega (arith, small, bought, sold))
