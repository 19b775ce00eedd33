-- How far the rounded values and percentages are from the exact ones. Assumes nothing.
use Rattle.std.proofs.Common.{◌≡◌, ℕ, zero, suc, ◌+◌, ◌*◌, ◌/◌, ◌^◌, ◌≤◌, min, Bool, true, false, cond, ◌&&◌, ltb, ℤ, nat_abs, Some, None, Option, sym, refl, ◌∙◌, mul-le-mul_right, mul-le-mul_left, zero-mul, arith}
use borrow.Author.Differences.{up, down, ints}
use Rattle.terms.specs.Sums.{sum_below}
use Rattle.terms.specs.declared.choice.ClassKind.{ClassKind}
use Rattle.terms.specs.declared.choice.ClassKind.TheVariants.{Liquidity, Duration}
use Rattle.rules.specs.declared.rows.ClassRow.{ClassRow}
use Rattle.rules.specs.declared.rows.SecurityRow.{SecurityRow}
use Rattle.rules.specs.Rows.{Rows, Lawful, LawfulSecurity, Present}
use Rattle.rules.specs.Margin.{Rounding, rounded, exact, factor_in, worth, in_class, value_in}
use Rattle.rules.specs.Held.{held_in}
use Rattle.rules.proofs.Parts.{nat_abs_is, one_sided}
use Rattle.rules.proofs.Sums.{sum_same, sum_add, sum_times, sum_within, sum_vanish, positive}
use Rattle.terms.specs.Limits.{security_count, whole, duration_limit}

-- |a − b| is at most e
abbrev pub Within : ℕ → ℕ → ℕ → Type 0
Within e a b = (a ≤ b + e) × (b ≤ a + e)

-- ---- a value

value_near' : (n d : ℕ) → d ≤ duration_limit → Within 155000000000 (10000000000 * (((n + 5000) / 10000 * d + 500000) / 1000000)) (n * d)
value_near' n d l =
    let A : ℕ = (n + 5000) / 10000 in
    let above : 10000 * A ≤ n + 5000 = omega arith in
    let below : n ≤ 10000 * A + 5000 = omega arith in
    omega (arith, mul-le-mul_right d above, mul-le-mul_right d below)

-- the error of the value of q units: none at 0 units
pub value_near : (q price rate d : ℕ) → d ≤ duration_limit → Within (155000000000 * min q 1) (10000000000 * rounded.value q price rate d) (exact.value q price rate d)
value_near zero price rate d l = rw (zero-mul price, zero-mul rate, zero-mul d) (omega arith)
value_near (suc q) price rate d l = omega (arith, value_near' (suc q * price * rate) d l)

pub factor_small : (o : Option ClassRow) (d : ℕ) → d ≤ duration_limit → factor_in o d ≤ duration_limit
factor_small (Some r) d l = go r.kind
  where
    go : (k : ClassKind) → Rattle.rules.specs.Margin.factor k d ≤ duration_limit
    go Liquidity = omega arith
    go Duration = omega arith
factor_small None d l = omega arith

-- ---- a percentage

pub part_near : (y a x e : ℕ) → y ≤ whole → Within e (10000000000 * a) x → Within (100000 * e + 5 * 10 ^ 16) (10 ^ 17 * rounded.part y a) (exact.part y x)
part_near y a x e l h =
    omega (arith, mul-le-mul_left y h.0, mul-le-mul_left y h.1, mul-le-mul_right e l)

-- ---- the value of a class

worth_near : (rows : Rows) (q : ℕ) (s : ℕ) (o : Option SecurityRow) → Present (LawfulSecurity rows s) o → Within (155000000000 * min q 1) (10000000000 * worth rounded rows q o) (worth exact rows q o)
worth_near rows q s (Some r) h = value_near q r.price r.rate (factor_in (rows.classes r.class) r.duration) (factor_small (rows.classes r.class) r.duration h.duration_small)
worth_near rows q s None h = omega arith

-- how many securities of a class have units
unfoldable pub units_in : Rows → (ℕ → ℕ) → ℕ → ℕ
units_in rows units c = sum_below security_count (λ s. cond (in_class rows c s) (min (units s) 1) 0)

cond_near : (t : Bool) (W w u : ℕ) → Within (155000000000 * u) (10000000000 * W) w → Within (155000000000 * cond t u 0) (10000000000 * cond t W 0) (cond t w 0)
cond_near true W w u h = h
cond_near false W w u h = omega arith

pub value_in_near : (rows : Rows) → Lawful rows → (units : ℕ → ℕ) (c : ℕ) → Within (155000000000 * units_in rows units c) (10000000000 * value_in rounded rows units c) (value_in exact rows units c)
unfolding value_in units_in
value_in_near rows h units c =
    let t : ℕ → Bool = in_class rows c in
    let W : ℕ → ℕ = λ s. cond (t s) (worth rounded rows (units s) (rows.securities s)) 0 in
    let w : ℕ → ℕ = λ s. cond (t s) (worth exact rows (units s) (rows.securities s)) 0 in
    let u : ℕ → ℕ = λ s. cond (t s) (min (units s) 1) 0 in
    let near : (s : ℕ) → Within (155000000000 * u s) (10000000000 * W s) (w s) =
    λ s. cond_near (t s) (worth rounded rows (units s) (rows.securities s)) (worth exact rows (units s) (rows.securities s)) (min (units s) 1)
    (worth_near rows (units s) s (rows.securities s) (h.of_securities s)) in (
      omega (arith, sum_within security_count (λ s. 10000000000 * W s) w (λ s. 155000000000 * u s) (λ s l. (near s).0), sum_times security_count 10000000000 W, sum_times security_count 155000000000 u),
      omega (arith, sum_within security_count w (λ s. 10000000000 * W s) (λ s. 155000000000 * u s) (λ s l. (near s).1), sum_times security_count 10000000000 W, sum_times security_count 155000000000 u),
    )

-- a class in which nothing has units is worth nothing
pub worth_none : (k : Rounding) → ((p r d : ℕ) → k.value 0 p r d ≡ 0) → (rows : Rows) (o : Option SecurityRow) → worth k rows 0 o ≡ 0
worth_none k h rows (Some r) = h r.price r.rate (factor_in (rows.classes r.class) r.duration)
worth_none k h rows None = refl

cond_none : (t : Bool) (u : ℕ) (w : ℕ → ℕ) → w 0 ≡ 0 → cond t (min u 1) 0 ≡ 0 → cond t (w u) 0 ≡ 0
cond_none true zero w z e = z
cond_none true (suc u) w z e = absurd (omega arith)
cond_none false u w z e = refl

pub value_in_none : (k : Rounding) → ((p r d : ℕ) → k.value 0 p r d ≡ 0) → (rows : Rows) (units : ℕ → ℕ) (c : ℕ) → units_in rows units c ≡ 0 → value_in k rows units c ≡ 0
unfolding value_in units_in
value_in_none k h rows units c =
    sum_vanish security_count (λ s. cond (in_class rows c s) (min (units s) 1) 0) (λ s. cond (in_class rows c s) (worth k rows (units s) (rows.securities s)) 0)
    (λ s. cond_none (in_class rows c s) (units s) (λ q. worth k rows q (rows.securities s)) (worth_none k h rows (rows.securities s)))

pub rounded_none : (p r d : ℕ) → rounded.value 0 p r d ≡ 0
rounded_none p r d = rw (zero-mul p, zero-mul r) (rw (zero-mul d) refl)

pub exact_none : (p r d : ℕ) → exact.value 0 p r d ≡ 0
exact_none p r d = rw (zero-mul p, zero-mul r, zero-mul d) refl

-- a security has units bought or units sold, and not both
net_units : (t : Bool) (n : ℤ) → cond t (min (up n) 1) 0 + cond t (min (down n) 1) 0 ≡ cond (t && ltb 0 (nat_abs n)) 1 0
net_units true n = omega (arith, ints, positive (nat_abs n), nat_abs_is n, one_sided n)
net_units false n = refl

pub units_split : (rows : Rows) (nets : ℕ → ℤ) (c : ℕ) → units_in rows (λ s. up (nets s)) c + units_in rows (λ s. down (nets s)) c ≡ held_in rows nets c
unfolding units_in held_in
units_split rows nets c =
    sym (sum_add security_count (λ s. cond (in_class rows c s) (min (up (nets s)) 1) 0) (λ s. cond (in_class rows c s) (min (down (nets s)) 1) 0))
    ∙ sum_same security_count _ _ (λ s l. net_units (in_class rows c s) (nets s))
