-- From what the steps leave to the exact margin that is defined. Assumes nothing.
use Rattle.std.proofs.Common.{◌≡◌, ℕ, zero, suc, ◌+◌, ◌<◌, ◌≤◌, min, List, length, get_or, ℤ, pos, ◌+ℤ◌, ◌-ℤ◌, nat_abs, sym, refl, ap, ◌∙◌, subst, ap₂, mul-le-mul, arith}
use Rattle.terms.specs.Limits.{security_count, class_count}
use Rattle.terms.specs.Sums.{sum_belowℤ}
use Rattle.rules.specs.Rows.{Rows, Lawful}
use Rattle.rules.specs.Margin.{AmountsSmall, exact, bought, sold, value_in, net_value, leftovers, credits, KSPK, DOLR, DSPAN}
use Rattle.rules.proofs.Classes.{abs_minus, figure_small}
use Rattle.rules.proofs.Walk.{Agree, credits_agree}
use Rattle.sheets.specs.Readings.{rates_in}
use Rattle.spreads.specs.declared.spread.Spread.{Spread}
use Rattle.spreads.specs.Legs.{Fresh, Walked}
use Rattle.spreads.proofs.Walking.{below, credits_small, sounds}
use Rattle.exact.specs.declared.records.Class.{Class}
use Rattle.exact.specs.declared.records.Sums.{Sums}
use Rattle.exact.specs.Sizes.{worths_limit, owed_limit}
use Rattle.exact.specs.Classes.{none, nothing, sums_to, SumsTo, risk_by, class_opened, left_of, walked}
use Rattle.exact.specs.Owed.{Small, owed_in}
use Rattle.exact.proofs.Small.{sums_small}
use Rattle.exact.specs.Legs.{lowered}

sumℤ_same : (n : ℕ) (f g : ℕ → ℤ) → ((i : ℕ) → i < n → f i ≡ g i) → sum_belowℤ n f ≡ sum_belowℤ n g
unfolding sum_belowℤ
sumℤ_same zero f g h = refl
sumℤ_same (suc n) f g h = ap₂ ◌+ℤ◌ (sumℤ_same n f g (λ i l. h i (omega arith))) (h n (omega arith))

-- the sums over all securities are PK and PS
all_summed : (rows : Rows) (nets : ℕ → ℤ) (c : ℕ) → sums_to rows nets security_count c ≡ record { bought = bought exact rows nets c; sold = sold exact rows nets c }
unfolding value_in
all_summed rows nets c = refl

-- the parts of a class whose sums are small
pub risk_small : (rows : Rows) → Lawful rows → (c : ℕ) (s : Sums) → s.bought + s.sold ≤ worths_limit → risk_by (rates_in (rows.classes c)) s ≤ owed_limit
risk_small rows h c s l =
    let row = rows.classes c in
    let apart : nat_abs (pos s.bought -ℤ pos s.sold) ≤ worths_limit = omega (arith, l, abs_minus s.bought s.sold) in
    let lower : min s.bought s.sold ≤ worths_limit = omega (arith, l) in
    omega (
      arith,
      mul-le-mul (figure_small (λ r. r.y) c (λ r l. l.y_small) row (h.of_classes c)) apart,
      mul-le-mul (figure_small (λ r. r.x) c (λ r l. l.x_small) row (h.of_classes c)) l,
      mul-le-mul (figure_small (λ r. r.dep) c (λ r l. l.dep_small) row (h.of_classes c)) lower,
    )

module _ (rows : Rows) (lawful : Lawful rows) (nets : ℕ → ℤ) (amounts : AmountsSmall rows nets) (xs : List Sums) (h : SumsTo rows nets security_count xs) where
  sums_are : (c : ℕ) → c < class_count → get_or xs c nothing ≡ record { bought = bought exact rows nets c; sold = sold exact rows nets c }
  sums_are c l = h.each c l ∙ all_summed rows nets c

  pub small : (c : ℕ) → c < class_count → (get_or xs c nothing).bought + (get_or xs c nothing).sold ≤ worths_limit
  small c l =
      subst (λ (s : Sums). s.bought + s.sold ≤ worths_limit) (sym (h.each c l)) (sums_small rows lawful nets amounts security_count c)

  module _ (cs : List Class) (o : (c : ℕ) → c < class_count → get_or cs c none ≡ class_opened (rates_in (rows.classes c)) (get_or xs c nothing)) where
    pub left_small : (c : ℕ) → c < class_count → nat_abs (left_of cs c) ≤ worths_limit
    left_small c l =
        let s : Sums = get_or xs c nothing in
        omega (arith, small c l, ap (λ (w : Class). nat_abs w.leftover) (o c l), abs_minus s.bought s.sold)

    starts : Agree class_count (left_of cs) (net_value exact rows nets)
    starts c l = ap (λ (w : Class). w.leftover) (o c l) ∙ ap (λ (s : Sums). pos s.bought -ℤ pos s.sold) (sums_are c l)

    pub fresh : class_count ≤ length cs → Fresh (λ (w : Class). w.leftover) (λ (w : Class). w.credits) worths_limit none cs
    fresh wide = record { wide = wide; credits = λ c l. ap (λ (w : Class). w.credits) (o c l); small = left_small }

    module _ (ws : List Class) (ts : List Spread) (told : Walked exact (λ (w : Class). w.leftover) walked rows.pairs none cs ws ts) where
      w : (c : ℕ) → c < class_count → get_or ws c none ≡ walked (get_or cs c none) (leftovers (left_of cs) rows.pairs c) (credits exact (left_of cs) rows.pairs c)
      w = told.legs

      pub small_walked : ((c : ℕ) → c < class_count → (get_or cs c none).risk ≤ owed_limit) → (c : ℕ) → c < class_count → Small (get_or ws c none)
      small_walked h c l = (
        omega (arith, h c l, ap (λ (x : Class). x.risk) (w c l)),
        omega (arith, ap (λ (x : Class). x.credits) (w c l), credits_small exact 1 lowered (left_of cs) rows.pairs (sounds rows lawful) c, left_small c l),
      )

      credits_are : (c : ℕ) → c < class_count → (get_or ws c none).credits ≡ KSPK exact rows nets c
      credits_are c l = ap (λ (x : Class). x.credits) (w c l) ∙ credits_agree class_count exact (left_of cs) (net_value exact rows nets) rows.pairs (below rows lawful) starts c

      risk_is : (c : ℕ) → c < class_count → (get_or ws c none).risk ≡ risk_by (rates_in (rows.classes c)) (record { bought = bought exact rows nets c; sold = sold exact rows nets c })
      risk_is c l = ap (λ (x : Class). x.risk) (w c l) ∙ ap (λ (x : Class). x.risk) (o c l) ∙ ap (risk_by (rates_in (rows.classes c))) (sums_are c l)

      owed_is : (c : ℕ) → c < class_count → owed_in ws c ≡ DOLR exact rows nets c
      owed_is c l = ap₂ (λ (r k : ℕ). pos r -ℤ pos k) (risk_is c l) (credits_are c l)

      pub total_is : sum_belowℤ class_count (owed_in ws) ≡ DSPAN exact rows nets
      total_is = sumℤ_same class_count (owed_in ws) (DOLR exact rows nets) owed_is
