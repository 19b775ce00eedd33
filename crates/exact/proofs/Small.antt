-- The exact values and sums are small where no amount is above its limit. Assumes nothing.
use Rattle.std.proofs.Common.{◌≡◌, ℕ, suc, ◌+◌, ◌*◌, ◌/◌, ◌≤◌, Bool, true, false, cond, ℤ, pos, negsuc, nat_abs, Some, None, Option, refl, subst, mul-le-mul_right, mul-le-mul, arith}
use borrow.Author.Differences.{up, down}
use Rattle.terms.specs.Limits.{amount_limit}
use Rattle.rules.specs.declared.rows.SecurityRow.{SecurityRow}
use Rattle.rules.specs.Rows.{Rows, Lawful, LawfulSecurity, Present}
use Rattle.rules.specs.Margin.{exact, amount_of, AmountsSmall, worth, in_class}
use Rattle.rules.proofs.Sums.{sum_add, sum_const, sum_le}
use Rattle.rules.proofs.Values.{factor_small, worth_none, exact_none}
use Rattle.exact.specs.Sizes.{product_limit, worth_limit}
use Rattle.exact.specs.Classes.{share, sums_to}

-- fewer units at a price and a rate
pub fewer : (u q price rate : ℕ) → u ≤ q → q * price * rate ≤ product_limit → u * price * rate ≤ product_limit
fewer u q price rate l h = omega (arith, mul-le-mul_right rate (mul-le-mul_right price l))

-- ---- what the limit of an amount says of a position

from_amount : (p : ℕ) → (p + 5000) / 10000 ≤ amount_limit → p ≤ product_limit
from_amount p h = omega arith

pub product_small : (rows : Rows) (nets : ℕ → ℤ) → AmountsSmall rows nets → (s : ℕ) (r : SecurityRow) → rows.securities s ≡ Some r → nat_abs (nets s) * r.price * r.rate ≤ product_limit
product_small rows nets small s r e =
    from_amount (nat_abs (nets s) * r.price * r.rate) (subst (λ (o : Option SecurityRow). amount_of (nat_abs (nets s)) o ≤ amount_limit) e (small s))

-- ---- what a position is worth

worth_small : (rows : Rows) (s q : ℕ) (o : Option SecurityRow) → Present (LawfulSecurity rows s) o → ((r : SecurityRow) → o ≡ Some r → q * r.price * r.rate ≤ product_limit) →
    worth exact rows q o ≤ worth_limit
worth_small rows s q (Some r) h k = mul-le-mul (k r refl) (factor_small (rows.classes r.class) r.duration h.duration_small)
worth_small rows s q None h k = omega arith

-- bought or sold, and not both
shares_case : (rows : Rows) (s : ℕ) (t : Bool) (n : ℤ) (o : Option SecurityRow) → Present (LawfulSecurity rows s) o → ((r : SecurityRow) → o ≡ Some r → nat_abs n * r.price * r.rate ≤ product_limit) →
    cond t (worth exact rows (up n) o) 0 + cond t (worth exact rows (down n) o) 0 ≤ worth_limit
shares_case rows s true (pos n) o h k = omega (arith, worth_small rows s n o h k, worth_none exact exact_none rows o)
shares_case rows s true (negsuc n) o h k = omega (arith, worth_small rows s (suc n) o h k, worth_none exact exact_none rows o)
shares_case rows s false n o h k = omega arith

-- ---- the two sums of a class

module _ (rows : Rows) (lawful : Lawful rows) (nets : ℕ → ℤ) (small : AmountsSmall rows nets) where
  pub sums_small : (n : ℕ) (c : ℕ) → (sums_to rows nets n c).bought + (sums_to rows nets n c).sold ≤ n * worth_limit
  sums_small n c =
      let b : ℕ → ℕ = share rows (λ s. up (nets s)) c in
      let d : ℕ → ℕ = share rows (λ s. down (nets s)) c in
      omega (
        arith,
        sum_add n b d,
        sum_const n worth_limit,
        sum_le n (λ s. b s + d s) (λ s. worth_limit)
            (λ s k. shares_case rows s (in_class rows c s) (nets s) (rows.securities s) (lawful.of_securities s) (product_small rows nets small s)),
      )
