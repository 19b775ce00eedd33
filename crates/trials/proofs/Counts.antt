-- Counts over the securities, and quantities that are 0.
use Rattle.std.proofs.Common.{◌≡◌, ℕ, zero, suc, ◌+◌, ◌<◌, ◌≤◌, Bool, true, false, cond, List, length, get_or, take, ℤ, pos, ◌-ℤ◌, nat_abs, sym, ap, ap₂, ◌∙◌, subst, ⊎_elim, add-one, arith, take_all, w64, SFits, to_z, of_z, refl}
use Rattle.std.specs.Prelude.{count_by}
use Rattle.std.proofs.lemmas.Int.{ints, to_z-of_z}
use Rattle.std.proofs.lemmas.Bool.{cases_lt, cases_Bool, eqb-true}
use Rattle.std.proofs.lemmas.List.Sums.{sum_by_more}
use Rattle.books.specs.Books.{is_zero}
use Rattle.trials.specs.Trials.{count}

pub count_none : (test : ℕ → Bool) → count test 0 ≡ 0
unfolding count
count_none test = refl

count_suc : (test : ℕ → Bool) (n : ℕ) → count test (suc n) ≡ count test n + cond (test n) 1 0
unfolding count
count_suc test n = refl

pub count_next : (test : ℕ → Bool) (n : ℕ) → count test (n + 1) ≡ count test n + cond (test n) 1 0
count_next test n = ap (count test) (add-one n) ∙ count_suc test n

-- one more is counted, or none
pub count_one : (test : ℕ → Bool) (n : ℕ) → test n ≡ true → count test (n + 1) ≡ count test n + 1
count_one test n e = count_next test n ∙ ap (λ b. count test n + cond b 1 0) e

pub count_same : (test : ℕ → Bool) (n : ℕ) → test n ≡ false → count test (n + 1) ≡ count test n
count_same test n e = let h = ap (λ b. count test n + cond b 1 0) e in omega (arith, count_next test n, h)

-- a longer walk counts no less
pub count_rises : (test : ℕ → Bool) (m n : ℕ) → m ≤ n → count test m ≤ count test n
count_rises test m zero h = let e : m ≡ 0 = omega arith in subst (λ k. count test k ≤ count test 0) (sym e) (omega arith)
count_rises test m (suc n) h =
    ⊎_elim
    (λ lt. omega (arith, count_suc test n, count_rises test m n (omega arith)))
    (λ ge. let e : m ≡ suc n = omega arith in subst (λ k. count test k ≤ count test (suc n)) (sym e) (omega arith))
    (cases_lt m (suc n))

-- 0 is the only number that is 0
pub zero_is : (z : ℤ) → is_zero z ≡ true → z ≡ pos 0
zero_is z e = let h = eqb-true (nat_abs z) 0 e in omega (arith, ints)

pub difference : (a b : ℤ) → (a ≡ b → ⊥) → is_zero (a -ℤ b) ≡ false
difference a b ne =
    ⊎_elim
    (λ t. let z = zero_is (a -ℤ b) t in absurd (ne (omega (arith, ints))))
    (λ f. f)
    (cases_Bool (is_zero (a -ℤ b)))

-- a number is 0 where its bits are
pub zero_bits : (z : ℤ) → SFits w64 z → of_z w64 z ≡ 0 → is_zero z ≡ true
zero_bits z f e = ap is_zero (sym (to_z-of_z w64 z f) ∙ ap (to_z w64) e)

pub nonzero_bits : (z : ℤ) → (of_z w64 z ≡ 0 → ⊥) → is_zero z ≡ false
nonzero_bits z ne = ⊎_elim (λ t. absurd (ne (ap (of_z w64) (zero_is z t)))) (λ f. f) (cases_Bool (is_zero z))

-- the same numbers, the same count
pub count_agrees : (f g : ℕ → Bool) (n : ℕ) → ((s : ℕ) → s < n → f s ≡ g s) → count f n ≡ count g n
count_agrees f g zero h = count_none f ∙ sym (count_none g)
count_agrees f g (suc n) h =
    count_suc f n ∙ ap₂ (λ (k : ℕ) (b : Bool). k + cond {A = ℕ} b 1 0) (count_agrees f g n (λ s l. h s (omega arith))) (h n (omega arith)) ∙ sym (count_suc g n)

-- a count over a list, by its places
counted_to : (p : ℤ → Bool) (xs : List ℤ) (n : ℕ) → n ≤ length xs → count_by p (take n xs) ≡ count (λ s. p (get_or xs s (pos 0))) n
counted_to p xs zero l = sym (count_none (λ s. p (get_or xs s (pos 0))))
counted_to p xs (suc n) l =
    subst (λ (k : ℕ). count_by p (take k xs) ≡ count (λ s. p (get_or xs s (pos 0))) k) (add-one n)
    (sum_by_more (λ x. cond (p x) 1 0) xs n (pos 0) (omega arith) ∙ ap (λ (k : ℕ). k + cond (p (get_or xs n (pos 0))) 1 0) (counted_to p xs n (omega arith))
    ∙ sym (count_next (λ s. p (get_or xs s (pos 0))) n))

pub counted : (p : ℤ → Bool) (xs : List ℤ) (n : ℕ) → length xs ≡ n → count_by p xs ≡ count (λ s. p (get_or xs s (pos 0))) n
counted p xs n e = ap (count_by p) (sym (take_all n xs (omega arith))) ∙ counted_to p xs n (omega arith)
