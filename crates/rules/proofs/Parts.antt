-- An integer by its two parts, `up z` and `down z`, of which one is 0: what a match and a step do to them. Assumes nothing.
use Rattle.std.proofs.Common.{◌≡◌, ℕ, ◌+◌, ◌-◌, min, ℤ, pos, negsuc, ◌-ℤ◌, nat_abs, arith}
use borrow.Author.Differences.{up, down, ints}
use Rattle.rules.specs.Margin.{matched, towards}

pub one_sided : (z : ℤ) → min (up z) (down z) ≡ 0
one_sided (pos n) = omega arith
one_sided (negsuc n) = omega arith

pub minus_parts : (a b : ℕ) → (up (pos a -ℤ pos b) ≡ a - b) × (down (pos a -ℤ pos b) ≡ b - a)
minus_parts a b = omega (arith, ints, one_sided (pos a -ℤ pos b))

pub towards_parts : (z : ℤ) (m : ℕ) → (up (towards z m) ≡ up z - m) × (down (towards z m) ≡ down z - m)
towards_parts z m = omega (arith, minus_parts (up z - m) (down z - m), one_sided z)

pub matched_is : (a b : ℤ) → matched a b ≡ min (up a) (down b) + min (down a) (up b)
matched_is (pos a) (pos b) = omega arith
matched_is (pos a) (negsuc b) = omega arith
matched_is (negsuc a) (pos b) = omega arith
matched_is (negsuc a) (negsuc b) = omega arith

pub nat_abs_is : (z : ℤ) → nat_abs z ≡ up z + down z
nat_abs_is (pos n) = omega arith
nat_abs_is (negsuc n) = omega arith
