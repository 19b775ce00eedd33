-- How far a class's rounded DRR + DRS + DSWK is from the exact one, and the sum of it over the classes. Assumes nothing.
use Rattle.std.proofs.Common.{◌≡◌, ℕ, ◌+◌, ◌-◌, ◌*◌, ◌^◌, ◌<◌, ◌≤◌, min, Bool, true, false, cond, ◌&&◌, eqb, ℤ, pos, ◌-ℤ◌, nat_abs, Some, None, Option, refl, ap, ◌∙◌, ⊎_elim, arith}
use borrow.Author.Differences.{up, down}
use Rattle.std.proofs.lemmas.Bool.{cases_lt, ne_eqb}
use Rattle.terms.specs.Sums.{sum_below}
use Rattle.rules.specs.declared.rows.ClassRow.{ClassRow}
use Rattle.rules.specs.declared.rows.SecurityRow.{SecurityRow}
use Rattle.rules.specs.Rows.{Rows, Lawful, LawfulClass, LawfulSecurity, Present, Has, figure}
use Rattle.rules.specs.Margin.{Rounding, rounded, exact, bought, sold, DRR, DRS, DSWK, has_class, in_class}
use Rattle.rules.specs.Held.{held, held_in, held_class, securities_held, classes_held}
use Rattle.rules.proofs.Parts.{minus_parts, nat_abs_is}
use Rattle.rules.proofs.Sums.{sum_le, sum_same, sum_add, sum_times, sum_within, sum_swap, sum_zero, sum_at_most, positive}
use Rattle.rules.proofs.Values.{Within, part_near, units_in, units_split, value_in_near, value_in_none, rounded_none, exact_none}
use Rattle.terms.specs.Limits.{security_count, class_count, whole}

pub abs_minus : (a b : ℕ) → nat_abs (pos a -ℤ pos b) ≡ (a - b) + (b - a)
abs_minus a b = omega (arith, nat_abs_is (pos a -ℤ pos b), minus_parts a b)

-- ---- CPN, CPB and min(PK, PS)

pub abs_near : (a b x y d e : ℕ) → Within d (10000000000 * a) x → Within e (10000000000 * b) y → Within (d + e) (10000000000 * nat_abs (pos a -ℤ pos b)) (nat_abs (pos x -ℤ pos y))
abs_near a b x y d e h k = rw (abs_minus a b, abs_minus x y) (omega arith)

sum_near : (a b x y d e : ℕ) → Within d (10000000000 * a) x → Within e (10000000000 * b) y → Within (d + e) (10000000000 * (a + b)) (x + y)
sum_near a b x y d e h k = omega arith

min_near : (a b x y d e : ℕ) → Within d (10000000000 * a) x → Within e (10000000000 * b) y → Within (d + e) (10000000000 * min a b) (min x y)
min_near a b x y d e h k = omega arith

-- ---- a class

abbrev pub risk : Rounding → Rows → (ℕ → ℤ) → ℕ → ℕ
risk k rows nets c = DRR k rows nets c + DRS k rows nets c + DSWK k rows nets c

three_near : (P Q S p q s e : ℕ) → Within e (10 ^ 17 * P) p → Within e (10 ^ 17 * Q) q → Within e (10 ^ 17 * S) s → Within (3 * e) (10 ^ 17 * (P + Q + S)) (p + q + s)
three_near P Q S p q s e h i j = omega arith

pub figure_small : (f : ClassRow → ℕ) (c : ℕ) → ((r : ClassRow) → LawfulClass c r → f r ≤ whole) → (o : Option ClassRow) → Present (LawfulClass c) o → figure f o ≤ whole
figure_small f c l (Some r) h = l r h
figure_small f c l None h = omega arith

risk_near : (rows : Rows) → Lawful rows → (nets : ℕ → ℤ) (c : ℕ) → Within (3 * (100000 * (155000000000 * held_in rows nets c) + 5 * 10 ^ 16)) (10 ^ 17 * risk rounded rows nets c) (risk exact rows nets c)
risk_near rows h nets c =
    let e : ℕ = 155000000000 * held_in rows nets c in
    let d : ℕ = 155000000000 * units_in rows (λ s. up (nets s)) c in
    let d' : ℕ = 155000000000 * units_in rows (λ s. down (nets s)) c in
    let same : d + d' ≡ e = omega (arith, units_split rows nets c) in
    let b : Within d (10000000000 * bought rounded rows nets c) (bought exact rows nets c) = value_in_near rows h (λ s. up (nets s)) c in
    let s : Within d' (10000000000 * sold rounded rows nets c) (sold exact rows nets c) = value_in_near rows h (λ s. down (nets s)) c in
    three_near _ _ _ _ _ _ (100000 * e + 5 * 10 ^ 16)
    (part_near (figure (λ r. r.y) (rows.classes c)) _ _ e (figure_small (λ r. r.y) c (λ r l. l.y_small) (rows.classes c) (h.of_classes c))
    (rw same at (abs_near (bought rounded rows nets c) (sold rounded rows nets c) (bought exact rows nets c) (sold exact rows nets c) d d' b s)))
    (part_near (figure (λ r. r.x) (rows.classes c)) _ _ e (figure_small (λ r. r.x) c (λ r l. l.x_small) (rows.classes c) (h.of_classes c))
    (rw same at (sum_near (bought rounded rows nets c) (sold rounded rows nets c) (bought exact rows nets c) (sold exact rows nets c) d d' b s)))
    (part_near (figure (λ r. r.dep) (rows.classes c)) _ _ e (figure_small (λ r. r.dep) c (λ r l. l.dep_small) (rows.classes c) (h.of_classes c))
    (rw same at (min_near (bought rounded rows nets c) (sold rounded rows nets c) (bought exact rows nets c) (sold exact rows nets c) d d' b s)))

pub nothing : (k : Rounding) → ((p r d : ℕ) → k.value 0 p r d ≡ 0) → (rows : Rows) (nets : ℕ → ℤ) (c : ℕ) → held_in rows nets c ≡ 0 → (bought k rows nets c ≡ 0) × (sold k rows nets c ≡ 0)
nothing k n rows nets c z = (
  value_in_none k n rows (λ s. up (nets s)) c (omega (arith, units_split rows nets c)),
  value_in_none k n rows (λ s. down (nets s)) c (omega (arith, units_split rows nets c)),
)

class_below : (n : ℕ) (o : Option ClassRow) (P : ClassRow → Type 0) → Has P o → Present (LawfulClass n) o → n < class_count
class_below n (Some r) P h l = l.number
class_below n None P h l = absurd h

no_class : (rows : Rows) → Lawful rows → (c s : ℕ) → class_count ≤ c → (o : Option SecurityRow) → Present (LawfulSecurity rows s) o → has_class c o ≡ false
no_class rows h c s b (Some r) l =
    let k : r.class < class_count = class_below r.class (rows.classes r.class) _ l.plain (h.of_classes r.class) in
    ne_eqb r.class c (λ e. omega arith)
no_class rows h c s b None l = refl

-- no class from class_count on is held
pub held_none : (rows : Rows) → Lawful rows → (nets : ℕ → ℤ) (c : ℕ) → class_count ≤ c → held_in rows nets c ≡ 0
unfolding held_in
held_none rows h nets c b =
    sum_same security_count (λ s. cond (in_class rows c s && held nets s) 1 0) (λ s. 0)
    (λ s l. ap (λ (t : Bool). cond {A = ℕ} (t && held nets s) 1 0) (no_class rows h c s b (rows.securities s) (h.of_securities s)))
    ∙ sum_zero security_count

rounded_nothing : (rows : Rows) (nets : ℕ → ℤ) (c : ℕ) → held_in rows nets c ≡ 0 → risk rounded rows nets c ≡ 0
rounded_nothing rows nets c z =
    let n : (bought rounded rows nets c ≡ 0) × (sold rounded rows nets c ≡ 0) = nothing rounded rounded_none rows nets c z in
    rw (n.0, n.1) (omega arith)

exact_nothing : (rows : Rows) (nets : ℕ → ℤ) (c : ℕ) → held_in rows nets c ≡ 0 → risk exact rows nets c ≡ 0
exact_nothing rows nets c z =
    let n : (bought exact rows nets c ≡ 0) × (sold exact rows nets c ≡ 0) = nothing exact exact_none rows nets c z in
    rw (n.0, n.1) (omega arith)

-- the bound for a class, in 10^-19 zloty
abbrev bound : Rows → (ℕ → ℤ) → ℕ → ℕ
bound rows nets c = 150000000000000000 * cond (held_class rows nets c) 1 0 + 46500000000000000 * held_in rows nets c

class_near : (rows : Rows) → Lawful rows → (nets : ℕ → ℤ) (c : ℕ) → Within (bound rows nets c) (10 ^ 17 * risk rounded rows nets c) (risk exact rows nets c)
class_near rows h nets c =
    ⊎_elim
    (λ (l : 0 < held_in rows nets c). widen _ _ _ _ (omega (arith, positive (held_in rows nets c))) (risk_near rows h nets c))
    (λ (l : held_in rows nets c ≤ 0). both_zero _ _ _ (rounded_nothing rows nets c (omega arith)) (exact_nothing rows nets c (omega arith)))
    (cases_lt 0 (held_in rows nets c))
  where
    widen : (d e a b : ℕ) → d ≤ e → Within d a b → Within e a b
    widen d e a b l w = omega arith

    both_zero : (e a b : ℕ) → a ≡ 0 → b ≡ 0 → Within e (10 ^ 17 * a) b
    both_zero e a b p q = omega arith

-- ---- all classes

-- a security is of one class at most
one_class : (o : Option SecurityRow) (t : Bool) → sum_below class_count (λ c. cond (has_class c o && t) 1 0) ≤ cond t 1 0
one_class (Some r) true = omega (arith, sum_same class_count (λ c. cond (eqb r.class c && true) 1 0) (λ c. cond (eqb r.class c) 1 0) (λ c l. and_true (eqb r.class c)), sum_at_most class_count r.class 1)
  where
    and_true : (x : Bool) → cond {A = ℕ} (x && true) 1 0 ≡ cond x 1 0
    and_true true = refl
    and_true false = refl
one_class (Some r) false = omega (arith, sum_same class_count (λ c. cond (eqb r.class c && false) 1 0) (λ c. 0) (λ c l. and_false (eqb r.class c)), sum_zero class_count)
  where
    and_false : (x : Bool) → cond {A = ℕ} (x && false) 1 0 ≡ 0
    and_false true = refl
    and_false false = refl
one_class None t = omega (arith, sum_zero class_count)

pub held_total : (rows : Rows) (nets : ℕ → ℤ) → sum_below class_count (held_in rows nets) ≤ securities_held nets
unfolding held_in
held_total rows nets =
    omega (
      arith,
      sum_swap class_count security_count (λ c s. cond (in_class rows c s && held nets s) 1 0),
      sum_le security_count (λ s. sum_below class_count (λ c. cond (in_class rows c s && held nets s) 1 0)) (λ s. cond (held nets s) 1 0) (λ s l. one_class (rows.securities s) (held nets s)),
    )

pub risks_near : (rows : Rows) → Lawful rows → (nets : ℕ → ℤ) → Within (150000000000000000 * classes_held rows nets + 46500000000000000 * securities_held nets) (10 ^ 17 * sum_below class_count (risk rounded rows nets)) (sum_below class_count (risk exact rows nets))
risks_near rows h nets =
    let A : ℕ → ℕ = risk rounded rows nets in
    let X : ℕ → ℕ = risk exact rows nets in
    let H : ℕ → ℕ = λ c. cond (held_class rows nets c) 1 0 in
    let total : sum_below class_count (bound rows nets) ≤ 150000000000000000 * classes_held rows nets + 46500000000000000 * securities_held nets =
    omega (
      arith,
      sum_add class_count (λ c. 150000000000000000 * H c) (λ c. 46500000000000000 * held_in rows nets c),
      sum_times class_count 150000000000000000 H,
      sum_times class_count 46500000000000000 (held_in rows nets),
      held_total rows nets,
    ) in (
      omega (arith, total, sum_times class_count (10 ^ 17) A, sum_within class_count (λ c. 10 ^ 17 * A c) X (bound rows nets) (λ c l. (class_near rows h nets c).0)),
      omega (arith, total, sum_times class_count (10 ^ 17) A, sum_within class_count X (λ c. 10 ^ 17 * A c) (bound rows nets) (λ c l. (class_near rows h nets c).1)),
    )
