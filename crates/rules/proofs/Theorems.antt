-- The theorems of specs/Laws.antt. Assumes nothing.
use Rattle.std.proofs.Common.{◌≡◌, ℕ, ◌+◌, ◌≤◌, min, true, cond, eqb, ℤ, pos, ◌-ℤ◌, nat_abs, ◌≤ℤ◌, Some, None, Option, refl, ap, ⊎_elim, mul-le-mul_right, arith}
use mathlib.Core.Path.{fun_ext}
use borrow.Author.Differences.{ints}
use Rattle.std.proofs.lemmas.Bool.{or_cases, eqb-true}
use Rattle.terms.specs.declared.choice.ClassKind.{ClassKind}
use Rattle.terms.specs.declared.choice.ClassKind.TheVariants.{Liquidity}
use Rattle.rules.specs.declared.rows.ClassRow.{ClassRow}
use Rattle.rules.specs.declared.rows.SecurityRow.{SecurityRow}
use Rattle.rules.specs.declared.rows.PairRow.{PairRow}
use Rattle.rules.specs.Rows.{Rows, Lawful, LawfulClass, LawfulSecurity, LawfulPair, Present, Has, figure, Every, raised, raised_row_lem}
use Rattle.rules.specs.Margin.{Rounding, TwoSums, rounded, factor_in, worth, in_class, value_in, bought, sold, net_in, net_value, credits, DRR, DRR_from, DRS, DSWK, KSPK, KSPK_from}
use Rattle.rules.specs.Laws.{Matching, NoNegative, Monotone, SurchargesLawful}
use Rattle.rules.proofs.Sums.{sum_same}
use Rattle.rules.proofs.Walk.{Apart, walk_matched, every_map}
use Rattle.rules.proofs.Credit.{Capped, credits_capped}
use Rattle.terms.specs.Limits.{security_count, duration_one}

-- ---- the walk

pub apart_pairs : (rows : Rows) → Lawful rows → Every Apart rows.pairs
apart_pairs rows h = every_map (λ p l. l.apart) rows.pairs h.of_pairs

pub matching : Matching
unfolding Matching
matching rows h v = walk_matched v rows.pairs (apart_pairs rows h)

-- ---- no class owes less than nothing

abbrev y_of : Rows → ℕ → ℕ
y_of rows c = figure (λ r. r.y) (rows.classes c)

capped : (rows : Rows) (p : PairRow) → LawfulPair rows p → Capped (y_of rows) p
capped rows p l = record {
  apart = l.apart;
  cap = λ c t. ⊎_elim
      (λ (e : eqb c p.first ≡ true). omega (arith, l.crt_first, ap (y_of rows) (eqb-true c p.first e)))
      (λ (e : eqb c p.second ≡ true). omega (arith, l.crt_second, ap (y_of rows) (eqb-true c p.second e)))
      (or_cases (eqb c p.first) (eqb c p.second) t);
}

-- from any leftovers, the credits of a class are at most y of what was left of it
pub credits_below : (rows : Rows) → Lawful rows → (f : ℕ → ℤ) (c : ℕ) → credits rounded f rows.pairs c ≤ rounded.part (figure (λ r. r.y) (rows.classes c)) (nat_abs (f c))
credits_below rows h f c = omega (arith, credits_capped (y_of rows) f rows.pairs (every_map (λ p l. capped rows p l) rows.pairs h.of_pairs) c)

-- the credits of a class are at most its DRR
pub credits_within : (rows : Rows) → Lawful rows → (sums : TwoSums) (c : ℕ) → KSPK_from rounded rows sums c ≤ DRR_from rounded rows sums c
credits_within rows h sums c = credits_below rows h (net_in sums) c

pub no_negative : NoNegative
no_negative rows h sums c = omega (arith, ints, credits_within rows h sums c)

-- ---- a surcharge lowers no deposit

factor_raised : (a b d : ℕ) (o : Option ClassRow) → factor_in (raised_row_lem a b o) d ≡ factor_in o d
factor_raised a b d (Some r) = refl
factor_raised a b d None = refl

worth_raised : (k : Rounding) (a b : ℕ → ℕ) (rows : Rows) (q : ℕ) (o : Option SecurityRow) → worth k (raised a b rows) q o ≡ worth k rows q o
worth_raised k a b rows q (Some r) = ap (k.value q r.price r.rate) (factor_raised (a r.class) (b r.class) r.duration (rows.classes r.class))
worth_raised k a b rows q None = refl

value_raised : (k : Rounding) (a b : ℕ → ℕ) (rows : Rows) (units : ℕ → ℕ) (c : ℕ) → value_in k (raised a b rows) units c ≡ value_in k rows units c
unfolding value_in
value_raised k a b rows units c = sum_same security_count _ _ (λ s l. ap (λ w. cond (in_class rows c s) w 0) (worth_raised k a b rows (units s) (rows.securities s)))

net_raised : (k : Rounding) (a b : ℕ → ℕ) (rows : Rows) (nets : ℕ → ℤ) → net_value k (raised a b rows) nets ≡ net_value k rows nets
net_raised k a b rows nets = fun_ext (λ c. simp value_raised)

y_raised : (c a b : ℕ) (o : Option ClassRow) → Present (LawfulClass c) o → figure (λ r. r.y) o ≤ figure (λ r. r.y) (raised_row_lem a b o)
y_raised c a b (Some r) h = omega (arith, h.y_small)
y_raised c a b None h = omega arith

x_raised : (c a b : ℕ) (o : Option ClassRow) → Present (LawfulClass c) o → figure (λ r. r.x) o ≤ figure (λ r. r.x) (raised_row_lem a b o)
x_raised c a b (Some r) h = omega (arith, h.x_small)
x_raised c a b None h = omega arith

dep_raised : (a b : ℕ) (o : Option ClassRow) → figure (λ r. r.dep) o ≡ figure (λ r. r.dep) (raised_row_lem a b o)
dep_raised a b (Some r) = refl
dep_raised a b None = refl

part_grows : (y z amount : ℕ) → y ≤ z → rounded.part y amount ≤ rounded.part z amount
part_grows y z amount l = omega (arith, mul-le-mul_right amount l)

drr_raised : (rows : Rows) → Lawful rows → (nets : ℕ → ℤ) (a b : ℕ → ℕ) (c : ℕ) → DRR rounded rows nets c ≤ DRR rounded (raised a b rows) nets c
drr_raised rows h nets a b c =
    let z : ℕ = figure (λ r. r.y) (raised_row_lem (a c) (b c) (rows.classes c)) in
    let same : DRR rounded (raised a b rows) nets c ≡ rounded.part z (nat_abs (net_value rounded rows nets c)) =
    ap (λ (f : ℕ → ℤ). rounded.part z (nat_abs (f c))) (net_raised rounded a b rows nets) in
    rw same (part_grows (y_of rows c) z (nat_abs (net_value rounded rows nets c)) (y_raised c (a c) (b c) (rows.classes c) (h.of_classes c)))

drs_raised : (rows : Rows) → Lawful rows → (nets : ℕ → ℤ) (a b : ℕ → ℕ) (c : ℕ) → DRS rounded rows nets c ≤ DRS rounded (raised a b rows) nets c
drs_raised rows h nets a b c =
    simp (value_raised rounded a b rows)
    (part_grows (figure (λ r. r.x) (rows.classes c)) (figure (λ r. r.x) (raised_row_lem (a c) (b c) (rows.classes c))) (bought rounded rows nets c + sold rounded rows nets c)
    (x_raised c (a c) (b c) (rows.classes c) (h.of_classes c)))

dswk_raised : (rows : Rows) (nets : ℕ → ℤ) (a b : ℕ → ℕ) (c : ℕ) → DSWK rounded rows nets c ≡ DSWK rounded (raised a b rows) nets c
dswk_raised rows nets a b c =
    simp (value_raised rounded a b rows)
    (ap (λ (d : ℕ). rounded.part d (min (bought rounded rows nets c) (sold rounded rows nets c))) (dep_raised (a c) (b c) (rows.classes c)))

kspk_raised : (rows : Rows) (nets : ℕ → ℤ) (a b : ℕ → ℕ) (c : ℕ) → KSPK rounded (raised a b rows) nets c ≡ KSPK rounded rows nets c
kspk_raised rows nets a b c = ap (λ (f : ℕ → ℤ). credits rounded f rows.pairs c) (net_raised rounded a b rows nets)

minus_grows : (p q r s t u k l : ℕ) → p ≤ s → q ≤ t → r ≡ u → l ≡ k → (pos (p + q + r) -ℤ pos k) ≤ℤ (pos (s + t + u) -ℤ pos l)
minus_grows p q r s t u k l h i e g = omega (arith, ints)

pub monotone : Monotone
monotone rows h nets a b c =
    minus_grows _ _ _ _ _ _ _ _ (drr_raised rows h nets a b c) (drs_raised rows h nets a b c) (dswk_raised rows nets a b c) (kspk_raised rows nets a b c)

-- ---- a surcharge keeps the laws

class_raised : (c a b : ℕ) (o : Option ClassRow) → Present (LawfulClass c) o → Present (LawfulClass c) (raised_row_lem a b o)
class_raised c a b (Some r) h = record { number = h.number; y_small = omega arith; x_small = omega arith; dep_small = h.dep_small; no_dep = h.no_dep }
class_raised c a b None h = tt

has_raised : (P : ClassKind → Type 0) (a b : ℕ) (o : Option ClassRow) → Has (λ r. P r.kind) o → Has (λ r. P r.kind) (raised_row_lem a b o)
has_raised P a b (Some r) h = h
has_raised P a b None h = h

kinds_raised : (a b a' b' : ℕ) (o o' : Option ClassRow) → Has (λ one. Has (λ other. one.kind ≡ other.kind) o') o → Has (λ one. Has (λ other. one.kind ≡ other.kind) (raised_row_lem a' b' o')) (raised_row_lem a b o)
kinds_raised a b a' b' (Some r) o' h = has_raised (λ k. r.kind ≡ k) a' b' o' h
kinds_raised a b a' b' None o' h = h

security_raised : (rows : Rows) (a b : ℕ → ℕ) (s : ℕ) (o : Option SecurityRow) → Present (LawfulSecurity rows s) o → Present (LawfulSecurity (raised a b rows) s) o
security_raised rows a b s (Some r) h = record {
  number = h.number;
  price_some = h.price_some;
  price_small = h.price_small;
  rate_some = h.rate_some;
  rate_small = h.rate_small;
  duration_small = h.duration_small;
  plain = has_raised (λ k. k ≡ Liquidity → r.duration ≡ duration_one) (a r.class) (b r.class) (rows.classes r.class) h.plain;
}
security_raised rows a b s None h = tt

pub surcharges_lawful : SurchargesLawful
surcharges_lawful rows h a b = record {
  of_classes = λ c. class_raised c (a c) (b c) (rows.classes c) (h.of_classes c);
  of_securities = λ s. security_raised rows a b s (rows.securities s) (h.of_securities s);
  of_pairs = every_map (λ p l. record {
    apart = l.apart;
    kinds = kinds_raised (a p.first) (b p.first) (a p.second) (b p.second) (rows.classes p.first) (rows.classes p.second) l.kinds;
    crt_first = omega (arith, l.crt_first, y_raised p.first (a p.first) (b p.first) (rows.classes p.first) (h.of_classes p.first));
    crt_second = omega (arith, l.crt_second, y_raised p.second (a p.second) (b p.second) (rows.classes p.second) (h.of_classes p.second));
  })
      rows.pairs h.of_pairs;
  few_pairs = h.few_pairs;
}
