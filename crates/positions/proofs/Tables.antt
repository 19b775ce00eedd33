-- The table of what every class sums to, one position more at a time. Assumes nothing.
use Rattle.std.proofs.Common.{◌≡◌, ℕ, ◌+◌, ◌^◌, ◌<◌, ◌≤◌, Bool, true, false, cond, eqb, ltb, List, length, get_or, set, ℤ, sym, refl, ap, ◌∙◌, subst, ⊎_elim, arith, length-set}
use Rattle.std.proofs.lemmas.List.{get_or-set_same, get_or-set_other, get_or_past}
use Rattle.std.proofs.lemmas.Bool.{cases_eq, cases_lt, eq-eqb, ne_eqb, cond-true, cond-false}
use Rattle.terms.specs.Limits.{class_count, security_count}
use Rattle.rules.specs.Rows.{Rows, Lawful}
use Rattle.rules.specs.Margin.{rounded, bought, sold}
use Rattle.rules.specs.Held.{held_in, securities_held, exposure_of}
use Rattle.rules.proofs.Classes.{held_none, nothing}
use Rattle.rules.proofs.Sums.{sum_const, sum_le, sum_more, sum_none, sum_vanish}
use Rattle.rules.proofs.Values.{rounded_none}
use Rattle.positions.specs.declared.class_sum.ClassSum.{ClassSum}
use Rattle.positions.specs.declared.position.Position.{Position}
use Rattle.positions.specs.declared.position.Valuation.{Valuation}
use Rattle.positions.specs.declared.position.Valuation.TheVariants.{Flat, Valued, Refused}
use Rattle.positions.specs.ClassSums.{no_sum, with_held, with_position, class_sum, Summed, SmallSums, IdleSums}
use Rattle.positions.specs.Sums.{exposure_from}
use Rattle.positions.specs.Values.{zl, placed, as_bought, as_sold, bought_share, sold_share, held_share, bought_in, sold_in, count_in_lem, count_all_lem, worth_of, AllValued, Small}
use Rattle.positions.proofs.Agreeing.{bought_agrees, sold_agrees, count_agrees, total_agrees}
use Rattle.positions.proofs.Summing.{bought_more, sold_more, sums_small}

abbrev sum_of : ℕ → ℕ → ℕ → ClassSum
sum_of b s h = record { bought = zl b; sold = zl s; held = h }

same_sum : (a b c x y z : ℕ) → a ≡ x → b ≡ y → c ≡ z → sum_of a b c ≡ sum_of x y z
same_sum a b c x y z e f g = ap (λ (n : ℕ). sum_of n b c) e ∙ ap (λ (n : ℕ). sum_of x n c) f ∙ ap (λ (n : ℕ). sum_of x y n) g

pub count_more : (all : List Valuation) (c n : ℕ) → count_in_lem all c (n + 1) ≡ count_in_lem all c n + held_share c (get_or all n Flat)
count_more all c n = sum_more n (λ s. held_share c (get_or all s Flat))

share_small : (t : Bool) → cond {A = ℕ} t 1 0 ≤ 1
share_small true = omega arith
share_small false = omega arith

pub counts_small : (all : List Valuation) (c n : ℕ) → count_in_lem all c n ≤ n
counts_small all c n = omega (arith, sum_const n 1, sum_le n (λ s. held_share c (get_or all s Flat)) (λ s. 1) (λ s l. share_small (placed c (get_or all s Flat))))

shut : (t : Bool) (v : ℕ) → cond {A = ℕ} t 1 0 ≡ 0 → cond t v 0 ≡ 0
shut true v e = omega arith
shut false v e = refl

-- what a position adds to a class
shared : (all : List Valuation) (c n : ℕ) → class_sum all (n + 1) c ≡ sum_of (bought_in all c n + bought_share c (get_or all n Flat)) (sold_in all c n + sold_share c (get_or all n Flat)) (count_in_lem all c n + held_share c (get_or all n Flat))
shared all c n = same_sum _ _ _ _ _ _ (bought_more all c n) (sold_more all c n) (count_more all c n)

module _ (sums : List ClassSum) (c b s h : ℕ) (is : get_or sums c no_sum ≡ sum_of b s h) (within : c < length sums) where
  added : (p : Position) (t : Bool) → t ≡ eqb p.class c → get_or (set sums p.class (with_held p (get_or sums p.class no_sum))) c no_sum
      ≡ sum_of (b + cond t (as_bought p.side p.value.units) 0) (s + cond t (as_sold p.side p.value.units) 0) (h + cond t 1 0)
  added p t e =
      ⊎_elim
      (λ (q : p.class ≡ c).
      let yes : t ≡ true = e ∙ eq-eqb p.class c q in
      subst (λ (k : ℕ). get_or (set sums k (with_held p (get_or sums k no_sum))) c no_sum ≡ sum_of (b + cond t (as_bought p.side p.value.units) 0) (s + cond t (as_sold p.side p.value.units) 0) (h + cond t 1 0)) (sym q)
      (get_or-set_same sums c (with_held p (get_or sums c no_sum)) no_sum within
      ∙ ap (with_held p) is
      ∙ same_sum _ _ _ _ _ _
      (ap (λ (n : ℕ). b + n) (sym (cond-true t (as_bought p.side p.value.units) 0 yes)))
      (ap (λ (n : ℕ). s + n) (sym (cond-true t (as_sold p.side p.value.units) 0 yes)))
      (ap (λ (n : ℕ). h + n) (sym (cond-true t 1 0 yes)))))
      (λ (d : p.class ≡ c → ⊥).
      let no = e ∙ ne_eqb p.class c d in
      get_or-set_other sums p.class c (with_held p (get_or sums p.class no_sum)) no_sum (λ (q : c ≡ p.class). d (sym q))
      ∙ is
      ∙ same_sum _ _ _ _ _ _
      (omega (arith, cond-false t (as_bought p.side p.value.units) 0 no))
      (omega (arith, cond-false t (as_sold p.side p.value.units) 0 no))
      (omega (arith, cond-false {A = ℕ} t 1 0 no)))
      (cases_eq p.class c)

  pub shares_added : (p : Valuation) → get_or (with_position p sums) c no_sum ≡ sum_of (b + bought_share c p) (s + sold_share c p) (h + held_share c p)
  shares_added Flat = is ∙ same_sum _ _ _ _ _ _ (omega arith) (omega arith) (omega arith)
  shares_added (Refused refusal) = is ∙ same_sum _ _ _ _ _ _ (omega arith) (omega arith) (omega arith)
  shares_added (Valued p) = added p (eqb p.class c) refl

-- the table with one position more
pub summed_more : (all : List Valuation) (n : ℕ) (sums : List ClassSum) → length sums ≡ class_count → Summed all n sums → Summed all (n + 1) (with_position (get_or all n Flat) sums)
summed_more all n sums wide so c l =
    shares_added sums c (bought_in all c n) (sold_in all c n) (count_in_lem all c n) (so c l) (omega arith) (get_or all n Flat)
    ∙ sym (shared all c n)

pub length_more : (p : Valuation) (sums : List ClassSum) → length (with_position p sums) ≡ length sums
length_more Flat sums = refl
length_more (Refused refusal) sums = refl
length_more (Valued p) sums = length-set sums p.class (with_held p (get_or sums p.class no_sum))

pub summed_none : (all : List Valuation) (sums : List ClassSum) → ((c : ℕ) → c < class_count → get_or sums c no_sum ≡ no_sum) → Summed all 0 sums
summed_none all sums h c l =
    h c l ∙ same_sum _ _ _ _ _ _ (sym (sum_none (λ s. bought_share c (get_or all s Flat)))) (sym (sum_none (λ s. sold_share c (get_or all s Flat)))) (sym (sum_none (λ s. held_share c (get_or all s Flat))))

-- there is room for one position more
module _ (all : List Valuation) (small : Small all) (n : ℕ) (below : n < security_count) (sums : List ClassSum) (so : Summed all n sums) (c : ℕ) (l : c < class_count) where
  pub bought_room : (get_or sums c no_sum).bought.units + worth_of (get_or all n Flat) < 2 ^ 64
  bought_room = omega (arith, ap (λ (w : ClassSum). w.bought.units) (so c l), sums_small all small c n, small n)

  pub sold_room : (get_or sums c no_sum).sold.units + worth_of (get_or all n Flat) < 2 ^ 64
  sold_room = omega (arith, ap (λ (w : ClassSum). w.sold.units) (so c l), sums_small all small c n, small n)

  pub held_room : (get_or sums c no_sum).held + 1 < 2 ^ 16
  held_room = omega (arith, ap (λ (w : ClassSum). w.held) (so c l), counts_small all c n)

-- ---- the whole table

-- its sums are small
pub summed_small : (all : List Valuation) (sums : List ClassSum) → Small all → Summed all security_count sums → SmallSums sums
summed_small all sums small so c l =
    omega (arith, ap (λ (w : ClassSum). w.bought.units) (so c l), ap (λ (w : ClassSum). w.sold.units) (so c l), sums_small all small c security_count)

-- and a class of which nothing is held sums to nothing
no_bought : (c : ℕ) (p : Valuation) → held_share c p ≡ 0 → bought_share c p ≡ 0
no_bought c Flat e = refl
no_bought c (Refused refusal) e = refl
no_bought c (Valued p) e = shut (eqb p.class c) (as_bought p.side p.value.units) e

no_sold : (c : ℕ) (p : Valuation) → held_share c p ≡ 0 → sold_share c p ≡ 0
no_sold c Flat e = refl
no_sold c (Refused refusal) e = refl
no_sold c (Valued p) e = shut (eqb p.class c) (as_sold p.side p.value.units) e

pub summed_idle : (all : List Valuation) (sums : List ClassSum) → Summed all security_count sums → IdleSums sums
summed_idle all sums so c l e =
    let none : count_in_lem all c security_count ≡ 0 = sym (ap (λ (w : ClassSum). w.held) (so c l)) ∙ e in
    let vanish = λ (f : ℕ → Valuation → ℕ) (h : (p : Valuation) → held_share c p ≡ 0 → f c p ≡ 0).
    sum_vanish security_count (λ s. held_share c (get_or all s Flat)) (λ s. f c (get_or all s Flat)) (λ s. h (get_or all s Flat)) none in (
      ap (λ (w : ClassSum). w.bought.units) (so c l) ∙ vanish bought_share (no_bought c),
      ap (λ (w : ClassSum). w.sold.units) (so c l) ∙ vanish sold_share (no_sold c),
    )

-- the sums over the positions of a portfolio that no question refuses are those of its nets
pub sums_up : (all : List Valuation) (xs : List ClassSum) (n : ℕ) → length xs ≡ class_count → Summed all security_count xs → n ≡ count_all_lem all security_count
    → (rows : Rows) → Lawful rows → (nets : ℕ → ℤ) → AllValued rows nets all → exposure_from xs n ≡ exposure_of rounded rows nets
sums_up all xs n wide so counted rows lawful nets p =
    let past : (c : ℕ) → class_count ≤ c → get_or xs c no_sum ≡ no_sum = λ c b. get_or_past xs c no_sum (omega (arith, wide)) in
    let none : (c : ℕ) → class_count ≤ c → held_in rows nets c ≡ 0 = held_none rows lawful nets in
    let bought_is : (c : ℕ) → (get_or xs c no_sum).bought.units ≡ bought rounded rows nets c =
    λ c. ⊎_elim
    (λ (l : c < class_count). ap (λ (w : ClassSum). w.bought.units) (so c l) ∙ bought_agrees rows nets all p c)
    (λ (b : class_count ≤ c). ap (λ (w : ClassSum). w.bought.units) (past c b) ∙ sym (nothing rounded rounded_none rows nets c (none c b)).0)
    (cases_lt c class_count) in
    let sold_is : (c : ℕ) → (get_or xs c no_sum).sold.units ≡ sold rounded rows nets c =
    λ c. ⊎_elim
    (λ (l : c < class_count). ap (λ (w : ClassSum). w.sold.units) (so c l) ∙ sold_agrees rows nets all p c)
    (λ (b : class_count ≤ c). ap (λ (w : ClassSum). w.sold.units) (past c b) ∙ sym (nothing rounded rounded_none rows nets c (none c b)).1)
    (cases_lt c class_count) in
    let count_is : (c : ℕ) → (get_or xs c no_sum).held ≡ held_in rows nets c =
    λ c. ⊎_elim
    (λ (l : c < class_count). ap (λ (w : ClassSum). w.held) (so c l) ∙ count_agrees rows nets all p c)
    (λ (b : class_count ≤ c). ap (λ (w : ClassSum). w.held) (past c b) ∙ sym (none c b))
    (cases_lt c class_count) in
    let total_is : n ≡ securities_held nets = counted ∙ total_agrees rows nets all p in
    λ i. record {
      sums = record { bought = λ c. bought_is c i; sold = λ c. sold_is c i };
      held = λ c. ltb 0 (count_is c i);
      securities = total_is i;
    }
