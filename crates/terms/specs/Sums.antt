-- Sums and counts over the numbers below a bound. They are shut (`unfoldable`), so that no proof opens a sum of 256 terms by accident.
-- Assumes nothing.
use Rattle.std.specs.Prelude.{ℕ, zero, suc, ◌+◌, Bool, cond, ℤ, pos, ◌+ℤ◌}

unfoldable pub sum_below : ℕ → (ℕ → ℕ) → ℕ
sum_below zero f = 0
sum_below (suc n) f = sum_below n f + f n

unfoldable pub sum_belowℤ : ℕ → (ℕ → ℤ) → ℤ
sum_belowℤ zero f = pos 0
sum_belowℤ (suc n) f = sum_belowℤ n f +ℤ f n

-- how many of the numbers below the bound pass the test
abbrev pub count_below : ℕ → (ℕ → Bool) → ℕ
count_below n p = sum_below n (λ i. cond (p i) 1 0)
