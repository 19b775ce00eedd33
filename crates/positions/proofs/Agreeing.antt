-- The sums and counts over the positions are those that the margin is defined by. Assumes nothing.
use Rattle.std.proofs.Common.{◌≡◌, ℕ, ◌<◌, ◌≤◌, Bool, true, false, cond, ◌&&◌, eqb, ltb, leb, List, get_or, ℤ, nat_abs, pos, negsuc, Some, None, Option, sym, refl, ap, ◌∙◌, subst, ⊎_elim, arith}
use borrow.Author.Differences.{up, down}
use Rattle.std.proofs.lemmas.List.{get_or_past}
use Rattle.std.proofs.lemmas.Bool.{cases_lt, leb-true, ltb-false, lt-ltb}
use Rattle.terms.specs.Limits.{class_count, security_count, amount_limit}
use Rattle.terms.proofs.Answered.{asked as question_passed, unrefused}
use Rattle.terms.specs.declared.refusal.Refusal.{Refusal}
use Rattle.terms.specs.declared.refusal.Refusal.TheVariants.{AmountTooLarge}
use Rattle.rules.specs.declared.rows.SecurityRow.{SecurityRow}
use Rattle.rules.specs.Laws.{value_limit}
use Rattle.rules.specs.declared.rows.ClassRow.{ClassRow}
use Rattle.rules.specs.Rows.{Rows, Lawful, LawfulClass, LawfulSecurity, Present, Has}
use Rattle.rules.specs.Margin.{rounded, amount, amount_of, AmountsSmall, worth, has_class, in_class, bought, sold, value_in}
use Rattle.rules.specs.Held.{held, held_in, securities_held}
use Rattle.rules.proofs.Parts.{nat_abs_is}
use Rattle.rules.proofs.Sums.{sum_same}
use Rattle.rules.proofs.Fits.{values_within}
use Rattle.rules.proofs.Values.{worth_none, rounded_none}
use Rattle.positions.specs.declared.position.Valuation.{Valuation}
use Rattle.positions.specs.declared.position.Valuation.TheVariants.{Flat}
use Rattle.positions.specs.Questions.{row_refusal, held_refusal, held_fault, portfolio_fault}
use Rattle.positions.specs.Values.{as_bought, as_sold, side_of_lem, worth_of, position_at, judged, is_valued_lem, class_listed, bought_share, sold_share, held_share, bought_in, sold_in, count_in_lem, count_all_lem, AllValued, Listed, Small}
use Rattle.positions.proofs.Refusing.{all_pass}

-- ---- one position

cond_same : {A : Type 0} (t : Bool) (a : A) → cond t a a ≡ a
cond_same true a = refl
cond_same false a = refl

and_false : (t : Bool) → (t && false) ≡ false
and_false true = refl
and_false false = refl

no_units : (rows : Rows) (o : Option SecurityRow) (q : ℕ) → q ≡ 0 → 0 ≡ worth rounded rows q o
no_units rows o q e = sym (ap (λ (k : ℕ). worth rounded rows k o) e ∙ worth_none rounded rounded_none rows o)

-- the units of a net are all on its side
side_bought : (rows : Rows) (n : ℤ) (r : SecurityRow) → as_bought (side_of_lem n) (worth rounded rows (nat_abs n) (Some r)) ≡ worth rounded rows (up n) (Some r)
side_bought rows (pos n) r = refl
side_bought rows (negsuc n) r = no_units rows (Some r) 0 refl

side_sold : (rows : Rows) (n : ℤ) (r : SecurityRow) → as_sold (side_of_lem n) (worth rounded rows (nat_abs n) (Some r)) ≡ worth rounded rows (down n) (Some r)
side_sold rows (pos n) r = no_units rows (Some r) 0 refl
side_sold rows (negsuc n) r = refl

and_true : (t : Bool) → t ≡ (t && true)
and_true true = refl
and_true false = refl

-- a security that no question refuses is valued as its position, if it is held
abbrev seen : Rows → ℤ → Option SecurityRow → Bool → Valuation
seen rows n o t = judged (cond t (row_refusal (nat_abs n) o) None) (cond t (position_at rows n o) None)

no_row : (q : ℕ) → row_refusal q None ≡ None → ⊥
no_row q e = let z : ◌≡◌ {A = ℕ} 0 1 = cc in omega arith

module _ (rows : Rows) (c : ℕ) (n : ℤ) where
  bought_case : (o : Option SecurityRow) (t : Bool) → (t ≡ false → nat_abs n ≡ 0) → cond t (row_refusal (nat_abs n) o) None ≡ None →
      bought_share c (seen rows n o t) ≡ cond (has_class c o) (worth rounded rows (up n) o) 0
  bought_case None true z e = absurd (no_row (nat_abs n) e)
  bought_case (Some r) true z e = ap (λ (q : Option Refusal). bought_share c (judged q (position_at rows n (Some r)))) e ∙ ap (λ (w : ℕ). cond (eqb r.class c) w 0) (side_bought rows n r)
  bought_case None false z e = refl
  bought_case (Some r) false z e =
      let none : up n ≡ 0 = omega (arith, nat_abs_is n, z refl) in
      sym (cond_same (eqb r.class c) 0) ∙ ap (λ (w : ℕ). cond (eqb r.class c) w 0) (no_units rows (Some r) (up n) none)

  sold_case : (o : Option SecurityRow) (t : Bool) → (t ≡ false → nat_abs n ≡ 0) → cond t (row_refusal (nat_abs n) o) None ≡ None →
      sold_share c (seen rows n o t) ≡ cond (has_class c o) (worth rounded rows (down n) o) 0
  sold_case None true z e = absurd (no_row (nat_abs n) e)
  sold_case (Some r) true z e = ap (λ (q : Option Refusal). sold_share c (judged q (position_at rows n (Some r)))) e ∙ ap (λ (w : ℕ). cond (eqb r.class c) w 0) (side_sold rows n r)
  sold_case None false z e = refl
  sold_case (Some r) false z e =
      let none : down n ≡ 0 = omega (arith, nat_abs_is n, z refl) in
      sym (cond_same (eqb r.class c) 0) ∙ ap (λ (w : ℕ). cond (eqb r.class c) w 0) (no_units rows (Some r) (down n) none)

  held_case : (o : Option SecurityRow) (t : Bool) → cond t (row_refusal (nat_abs n) o) None ≡ None → held_share c (seen rows n o t) ≡ cond (has_class c o && t) 1 0
  held_case None true e = absurd (no_row (nat_abs n) e)
  held_case (Some r) true e = ap (λ (q : Option Refusal). held_share c (judged q (position_at rows n (Some r)))) e ∙ ap (λ (b : Bool). cond {A = ℕ} b 1 0) (and_true (eqb r.class c))
  held_case None false e = refl
  held_case (Some r) false e = ap (λ (b : Bool). cond {A = ℕ} b 1 0) (sym (and_false (eqb r.class c)))

-- it is valued where it is held
flag_case : (rows : Rows) (n : ℤ) (o : Option SecurityRow) (t : Bool) → cond t (row_refusal (nat_abs n) o) None ≡ None → is_valued_lem (seen rows n o t) ≡ t
flag_case rows n None true e = absurd (no_row (nat_abs n) e)
flag_case rows n (Some r) true e = ap (λ (q : Option Refusal). is_valued_lem (judged q (position_at rows n (Some r)))) e
flag_case rows n o false e = refl

small_case : (rows : Rows) (n : ℤ) (o : Option SecurityRow) (t : Bool) → (amount_of (nat_abs n) o ≤ amount_limit → worth rounded rows (nat_abs n) o ≤ value_limit) → cond t (row_refusal (nat_abs n) o) None ≡ None →
    worth_of (seen rows n o t) ≤ value_limit
small_case rows n None true h e = absurd (no_row (nat_abs n) e)
small_case rows n (Some r) true h e =
    subst (λ (q : Option Refusal). worth_of (judged q (position_at rows n (Some r))) ≤ value_limit) (sym e)
    (h (leb-true (amount (nat_abs n) r.price r.rate) amount_limit ((question_passed (leb (amount (nat_abs n) r.price r.rate) amount_limit) None AmountTooLarge e).0)))
small_case rows n o false h e = omega arith

-- its class is one that there is
class_below : (n : ℕ) (o : Option ClassRow) (P : ClassRow → Type 0) → Has P o → Present (LawfulClass n) o → ltb n class_count ≡ true
class_below n (Some r) P h l = lt-ltb n class_count l.number
class_below n None P h l = absurd h

listed_case : (rows : Rows) (s : ℕ) → Lawful rows → (n : ℤ) (o : Option SecurityRow) (t : Bool) → Present (LawfulSecurity rows s) o → class_listed (seen rows n o t) ≡ true
listed_case rows s h n None true l = refl
listed_case rows s h n (Some r) true l =
    elim (row_refusal (nat_abs n) (Some r)) as (λ (q : Option Refusal). class_listed (judged q (position_at rows n (Some r))) ≡ true)
    [ None ↦ class_below r.class (rows.classes r.class) _ l.plain (h.of_classes r.class) | Some refusal ↦ refl ]
listed_case rows s h n o false l = refl

-- no amount is above the limit where no question refuses
amount_case : (n : ℤ) (o : Option SecurityRow) (t : Bool) → (t ≡ false → nat_abs n ≡ 0) → cond t (row_refusal (nat_abs n) o) None ≡ None → amount_of (nat_abs n) o ≤ amount_limit
amount_case n None t z e = omega arith
amount_case n (Some r) true z e = leb-true (amount (nat_abs n) r.price r.rate) amount_limit ((question_passed (leb (amount (nat_abs n) r.price r.rate) amount_limit) None AmountTooLarge e).0)
amount_case n (Some r) false z e = subst (λ (q : ℕ). amount_of q (Some r) ≤ amount_limit) (sym (z refl)) (omega arith)

pub not_held : (n : ℤ) → ltb 0 (nat_abs n) ≡ false → nat_abs n ≡ 0
not_held n e = omega (arith, ltb-false 0 (nat_abs n) e)

past_rows : (rows : Rows) (s : ℕ) → security_count ≤ s → (o : Option SecurityRow) → Present (LawfulSecurity rows s) o → (q : ℕ) → amount_of q o ≤ amount_limit
past_rows rows s b (Some r) l q = absurd (omega (arith, l.number))
past_rows rows s b None l q = omega arith

pub amounts_small : (rows : Rows) → Lawful rows → (nets : ℕ → ℤ) → ((s : ℕ) → s < security_count → held_refusal rows nets s ≡ None) → AmountsSmall rows nets
amounts_small rows h nets asked s =
    ⊎_elim
    (λ (l : s < security_count). amount_case (nets s) (rows.securities s) (held nets s) (not_held (nets s)) (asked s l))
    (λ (b : security_count ≤ s). past_rows rows s b (rows.securities s) (h.of_securities s) (nat_abs (nets s)))
    (cases_lt s security_count)

-- where no security has a fault, none is refused
pub all_asked : (rows : Rows) (nets : ℕ → ℤ) → portfolio_fault rows nets ≡ None → (s : ℕ) → s < security_count → held_refusal rows nets s ≡ None
all_asked rows nets pass s l = unrefused s (held_refusal rows nets s) (all_pass security_count (held_fault rows nets) pass s l)

-- ---- all positions

module _ (rows : Rows) (nets : ℕ → ℤ) (all : List Valuation) (p : AllValued rows nets all) where
  pub bought_agrees : (c : ℕ) → bought_in all c security_count ≡ bought rounded rows nets c
  unfolding value_in
  bought_agrees c =
      sum_same security_count (λ s. bought_share c (get_or all s Flat)) (λ s. cond (in_class rows c s) (worth rounded rows (up (nets s)) (rows.securities s)) 0)
      (λ s l. ap (bought_share c) (p.each s l) ∙ bought_case rows c (nets s) (rows.securities s) (held nets s) (not_held (nets s)) (p.asked s l))

  pub sold_agrees : (c : ℕ) → sold_in all c security_count ≡ sold rounded rows nets c
  unfolding value_in
  sold_agrees c =
      sum_same security_count (λ s. sold_share c (get_or all s Flat)) (λ s. cond (in_class rows c s) (worth rounded rows (down (nets s)) (rows.securities s)) 0)
      (λ s l. ap (sold_share c) (p.each s l) ∙ sold_case rows c (nets s) (rows.securities s) (held nets s) (not_held (nets s)) (p.asked s l))

  pub count_agrees : (c : ℕ) → count_in_lem all c security_count ≡ held_in rows nets c
  unfolding held_in
  count_agrees c =
      sum_same security_count (λ s. held_share c (get_or all s Flat)) (λ s. cond (in_class rows c s && held nets s) 1 0)
      (λ s l. ap (held_share c) (p.each s l) ∙ held_case rows c (nets s) (rows.securities s) (held nets s) (p.asked s l))

  pub total_agrees : count_all_lem all security_count ≡ securities_held nets
  total_agrees =
      sum_same security_count (λ s. cond (is_valued_lem (get_or all s Flat)) 1 0) (λ s. cond (held nets s) 1 0)
      (λ s l. ap (λ (q : Valuation). cond {A = ℕ} (is_valued_lem q) 1 0) (p.each s l)
      ∙ ap (λ (t : Bool). cond {A = ℕ} t 1 0) (flag_case rows (nets s) (rows.securities s) (held nets s) (p.asked s l)))

  pub positions_small : Lawful rows → Small all
  positions_small h s =
      ⊎_elim
      (λ (l : s < security_count). subst (λ (q : Valuation). worth_of q ≤ value_limit) (sym (p.each s l))
      (small_case rows (nets s) (rows.securities s) (held nets s) (values_within rows h s (nat_abs (nets s))) (p.asked s l)))
      (λ (l : security_count ≤ s). subst (λ (q : Valuation). worth_of q ≤ value_limit) (sym (get_or_past all s Flat (omega (arith, p.long)))) (omega arith))
      (cases_lt s security_count)

  pub positions_listed : Lawful rows → Listed all
  positions_listed h s =
      ⊎_elim
      (λ (l : s < security_count). ap class_listed (p.each s l) ∙ listed_case rows s h (nets s) (rows.securities s) (held nets s) (h.of_securities s))
      (λ (l : security_count ≤ s). ap class_listed (get_or_past all s Flat (omega (arith, p.long))))
      (cases_lt s security_count)
