-- Laws of the sums of specs/Sums.antt. Assumes nothing.
use Rattle.std.proofs.Common.{◌≡◌, ℕ, zero, suc, ◌+◌, ◌*◌, ◌<◌, ◌≤◌, min, cond, ◌||◌, eqb, ltb, ◌≢◌, ℤ, pos, ◌+ℤ◌, ◌-ℤ◌, sym, refl, ap, ◌∙◌, ⊎_elim, mul-zero, add-one, arith}
use borrow.Author.Differences.{ints}
use Rattle.std.proofs.lemmas.Bool.{cases_eq, cases_lt, lt-ltb, le-ltb, eq-eqb, ne_eqb, cond-true, cond-false, or_left, or_right, or_from}
use Rattle.terms.specs.Sums.{sum_below, sum_belowℤ}

pub sum_le : (n : ℕ) (f g : ℕ → ℕ) → ((i : ℕ) → i < n → f i ≤ g i) → sum_below n f ≤ sum_below n g
unfolding sum_below
sum_le zero f g h = omega arith
sum_le (suc n) f g h = omega (arith, sum_le n f g (λ i l. h i (omega arith)), h n (omega arith))

pub sum_same : (n : ℕ) (f g : ℕ → ℕ) → ((i : ℕ) → i < n → f i ≡ g i) → sum_below n f ≡ sum_below n g
unfolding sum_below
sum_same zero f g h = refl
sum_same (suc n) f g h = omega (arith, sum_same n f g (λ i l. h i (omega arith)), h n (omega arith))

pub sum_add : (n : ℕ) (f g : ℕ → ℕ) → sum_below n (λ i. f i + g i) ≡ sum_below n f + sum_below n g
unfolding sum_below
sum_add zero f g = refl
sum_add (suc n) f g = omega (arith, sum_add n f g)

pub sum_times : (n k : ℕ) (f : ℕ → ℕ) → sum_below n (λ i. k * f i) ≡ k * sum_below n f
unfolding sum_below
sum_times zero k f = sym (mul-zero k)
sum_times (suc n) k f = omega (arith, sum_times n k f)

pub sum_zero : (n : ℕ) → sum_below n (λ i. 0) ≡ 0
unfolding sum_below
sum_zero zero = refl
sum_zero (suc n) = omega (arith, sum_zero n)

-- a sum of sums, by rows and by columns
pub sum_swap : (m n : ℕ) (f : ℕ → ℕ → ℕ) → sum_below m (λ i. sum_below n (λ j. f i j)) ≡ sum_below n (λ j. sum_below m (λ i. f i j))
unfolding sum_below
sum_swap zero n f = sym (sum_zero n)
sum_swap (suc m) n f =
    omega (arith, sum_swap m n f, sum_add n (λ j. sum_below m (λ i. f i j)) (λ j. f m j))

-- |f − g| at each place bounds it for the sums
pub sum_within : (n : ℕ) (f g e : ℕ → ℕ) → ((i : ℕ) → i < n → f i ≤ g i + e i) → sum_below n f ≤ sum_below n g + sum_below n e
sum_within n f g e h = omega (arith, sum_le n f (λ i. g i + e i) h, sum_add n g e)

-- two functions that agree but at i
pub sum_but_one : (n i : ℕ) (f g : ℕ → ℕ) → i < n → ((c : ℕ) → c ≢ i → f c ≡ g c) → sum_below n f + g i ≡ sum_below n g + f i
unfolding sum_below
sum_but_one zero i f g l h = absurd (omega arith)
sum_but_one (suc n) i f g l h =
    ⊎_elim
    (λ e. omega (arith, sum_same n f g (λ c l. h c (λ (q : c ≡ i). omega arith)), ap f e, ap g e))
    (λ d. omega (arith, sum_but_one n i f g (omega arith) h, h n (λ e. d (sym e))))
    (cases_eq i n)

-- two functions that agree but at i and j
pub sum_but_two : (n i j : ℕ) (f g : ℕ → ℕ) → i < n → j < n → i ≢ j → ((c : ℕ) → c ≢ i → c ≢ j → f c ≡ g c) → sum_below n f + (g i + g j) ≡ sum_below n g + (f i + f j)
sum_but_two n i j f g li lj d h =
    let mid : ℕ → ℕ = λ c. cond (eqb c i) (g c) (f c) in
    let at_i : mid i ≡ g i = cond-true (eqb i i) (g i) (f i) (eq-eqb i i refl) in
    let at_j : mid j ≡ f j = cond-false (eqb j i) (g j) (f j) (ne_eqb j i (λ q. d (sym q))) in
    let first : sum_below n f + mid i ≡ sum_below n mid + f i =
    sum_but_one n i f mid li (λ c q. sym (cond-false (eqb c i) (g c) (f c) (ne_eqb c i q))) in
    let second : sum_below n mid + g j ≡ sum_below n g + mid j =
    sum_but_one n j mid g lj (λ c q. ⊎_elim
    (λ (e : c ≡ i). cond-true (eqb c i) (g c) (f c) (eq-eqb c i e))
    (λ (e : c ≡ i → ⊥). cond-false (eqb c i) (g c) (f c) (ne_eqb c i e) ∙ h c e q)
    (cases_eq c i)) in
    omega (arith, first, second, at_i, at_j)

-- v at the places i and j, and 0 elsewhere
pub sum_at_two : (n i j v : ℕ) → i < n → j < n → i ≢ j → sum_below n (λ c. cond (eqb c i || eqb c j) v 0) ≡ v + v
sum_at_two n i j v li lj d =
    let f : ℕ → ℕ = λ c. cond (eqb c i || eqb c j) v 0 in
    let at_i : f i ≡ v = cond-true (eqb i i || eqb i j) v 0 (or_left (eqb i i) (eqb i j) (eq-eqb i i refl)) in
    let at_j : f j ≡ v = cond-true (eqb j i || eqb j j) v 0 (or_right (eqb j i) (eqb j j) (eq-eqb j j refl)) in
    let rest : (c : ℕ) → c ≢ i → c ≢ j → f c ≡ 0 =
    λ c p q. cond-false (eqb c i || eqb c j) v 0 (or_from (eqb c i) (eqb c j) (ne_eqb c i p) (ne_eqb c j q)) in
    omega (arith, sum_but_two n i j f (λ c. 0) li lj d rest, sum_zero n, at_i, at_j)

-- v at the place i at most once
pub sum_at_most : (n i v : ℕ) → sum_below n (λ c. cond (eqb i c) v 0) ≤ v
unfolding sum_below
sum_at_most zero i v = omega arith
sum_at_most (suc n) i v =
    ⊎_elim
    (λ (e : i ≡ n).
    omega (
      arith,
      cond-true (eqb i n) v 0 (eq-eqb i n e),
      sum_same n (λ c. cond (eqb i c) v 0) (λ c. 0) (λ c l. cond-false (eqb i c) v 0 (ne_eqb i c (λ (q : i ≡ c). omega arith))),
      sum_zero n,
    ))
    (λ (d : i ≡ n → ⊥). omega (arith, cond-false (eqb i n) v 0 (ne_eqb i n d), sum_at_most n i v))
    (cases_eq i n)

-- a sum of differences is the difference of the sums
pub sum_minus : (n : ℕ) (f g : ℕ → ℕ) → sum_belowℤ n (λ i. pos (f i) -ℤ pos (g i)) ≡ pos (sum_below n f) -ℤ pos (sum_below n g)
unfolding sum_below sum_belowℤ
sum_minus zero f g = refl
sum_minus (suc n) f g = omega (arith, ints, sum_minus n f g)

-- where f vanishes g does
pub sum_vanish : (n : ℕ) (f g : ℕ → ℕ) → ((i : ℕ) → f i ≡ 0 → g i ≡ 0) → sum_below n f ≡ 0 → sum_below n g ≡ 0
unfolding sum_below
sum_vanish zero f g h e = refl
sum_vanish (suc n) f g h e = omega (arith, sum_vanish n f g h (omega arith), h n (omega arith))

-- two places of a sum
pub sum_two : (n i j : ℕ) (f : ℕ → ℕ) → i < n → j < n → i ≢ j → f i + f j ≤ sum_below n f
sum_two n i j f li lj d =
    let g : ℕ → ℕ = λ c. cond (eqb c i || eqb c j) 0 (f c) in
    omega (
      arith,
      sum_but_two n i j f g li lj d (λ c p q. sym (cond-false (eqb c i || eqb c j) 0 (f c) (or_from (eqb c i) (eqb c j) (ne_eqb c i p) (ne_eqb c j q)))),
      cond-true (eqb i i || eqb i j) 0 (f i) (or_left (eqb i i) (eqb i j) (eq-eqb i i refl)),
      cond-true (eqb j i || eqb j j) 0 (f j) (or_right (eqb j i) (eqb j j) (eq-eqb j j refl)),
    )

pub positive : (k : ℕ) → cond (ltb 0 k) 1 0 ≡ min k 1
positive k =
    ⊎_elim
    (λ (l : 0 < k). omega (arith, cond-true {A = ℕ} (ltb 0 k) 1 0 (lt-ltb 0 k l)))
    (λ (l : k ≤ 0). omega (arith, cond-false {A = ℕ} (ltb 0 k) 1 0 (le-ltb 0 k l)))
    (cases_lt 0 k)

pub sum_const : (n k : ℕ) → sum_below n (λ i. k) ≡ n * k
unfolding sum_below
sum_const zero k = omega arith
sum_const (suc n) k = omega (arith, sum_const n k)

-- a loop's step
pub sum_more : (n : ℕ) (f : ℕ → ℕ) → sum_below (n + 1) f ≡ sum_below n f + f n
unfolding sum_below
sum_more n f = rw add-one refl

pub sum_none : (f : ℕ → ℕ) → sum_below 0 f ≡ 0
unfolding sum_below
sum_none f = refl

pub sumℤ_more : (n : ℕ) (f : ℕ → ℤ) → sum_belowℤ (n + 1) f ≡ sum_belowℤ n f +ℤ f n
unfolding sum_belowℤ
sumℤ_more n f = rw add-one refl

pub sumℤ_none : (f : ℕ → ℤ) → sum_belowℤ 0 f ≡ pos 0
unfolding sum_belowℤ
sumℤ_none f = refl
