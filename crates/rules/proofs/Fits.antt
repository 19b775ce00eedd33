-- The numbers of a margin are small where no amount is above its limit. Assumes nothing.
use Rattle.std.proofs.Common.{◌≡◌, ℕ, suc, ◌+◌, ◌*◌, ◌/◌, ◌≤◌, min, Bool, true, false, cond, ℤ, pos, negsuc, ◌-ℤ◌, nat_abs, ◌≤ℤ◌, Some, None, Option, mul-le-mul_right, mul-le-mul, arith}
use borrow.Author.Differences.{up, down, ints}
use Rattle.rules.specs.declared.rows.SecurityRow.{SecurityRow}
use Rattle.terms.specs.Sums.{sum_below}
use Rattle.rules.specs.Rows.{Rows, LawfulSecurity, Present, figure}
use Rattle.rules.specs.Margin.{rounded, amount, amount_of, factor_in, worth, in_class, value_in, bought, sold, KSPK, DSPAN}
use Rattle.rules.specs.Laws.{value_limit, sum_limit, deposit_limit, span_limit, ValuesWithin, SumsWithin, DepositsWithin, SpansWithin}
use Rattle.terms.specs.Limits.{security_count, class_count, whole, duration_limit, amount_limit}
use Rattle.rules.proofs.Sums.{sum_le, sum_add, sum_const, sum_minus}
use Rattle.rules.proofs.Classes.{risk, abs_minus, figure_small}
use Rattle.rules.proofs.Values.{factor_small, worth_none, rounded_none}

value_small : (a d : ℕ) → a ≤ amount_limit → d ≤ duration_limit → (a * d + 500000) / 1000000 ≤ value_limit
value_small a d h k = omega (arith, mul-le-mul h k)

worth_small : (rows : Rows) (s q : ℕ) (o : Option SecurityRow) → Present (LawfulSecurity rows s) o → amount_of q o ≤ amount_limit → worth rounded rows q o ≤ value_limit
worth_small rows s q (Some r) h k =
    value_small (amount q r.price r.rate) (factor_in (rows.classes r.class) r.duration) k
    (factor_small (rows.classes r.class) r.duration h.duration_small)
worth_small rows s q None h k = omega arith

-- bought or sold, and not both
pub net_small : (rows : Rows) (s : ℕ) (t : Bool) (n : ℤ) (o : Option SecurityRow) → Present (LawfulSecurity rows s) o → amount_of (nat_abs n) o ≤ amount_limit →
    cond t (worth rounded rows (up n) o) 0 + cond t (worth rounded rows (down n) o) 0 ≤ value_limit
net_small rows s true (pos n) o h k = omega (arith, worth_small rows s n o h k, worth_none rounded rounded_none rows o)
net_small rows s true (negsuc n) o h k = omega (arith, worth_small rows s (suc n) o h k, worth_none rounded rounded_none rows o)
net_small rows s false n o h k = omega arith

pub values_within : ValuesWithin value_limit
values_within rows h s q k = worth_small rows s q (rows.securities s) (h.of_securities s) k

pub sums_within : SumsWithin sum_limit
unfolding value_in
sums_within rows h nets small c =
    let b : ℕ → ℕ = λ s. cond (in_class rows c s) (worth rounded rows (up (nets s)) (rows.securities s)) 0 in
    let d : ℕ → ℕ = λ s. cond (in_class rows c s) (worth rounded rows (down (nets s)) (rows.securities s)) 0 in
    omega (
      arith,
      sum_add security_count b d,
      sum_const security_count value_limit,
      sum_le security_count (λ s. b s + d s) (λ s. value_limit) (λ s l. net_small rows s (in_class rows c s) (nets s) (rows.securities s) (h.of_securities s) (small s)),
    )

-- a percentage up to the whole
pub part_small : (y a : ℕ) → y ≤ whole → rounded.part y a ≤ a / 100 + 1
part_small y a l = omega (arith, mul-le-mul_right a l)

pub parts_small : (pk ps d b s : ℕ) → pk + ps ≤ sum_limit → d ≤ nat_abs (pos pk -ℤ pos ps) / 100 + 1 → b ≤ (pk + ps) / 100 + 1 → s ≤ min pk ps / 100 + 1 → d + b + s ≤ deposit_limit
parts_small pk ps d b s l p q r = omega (arith, abs_minus pk ps)

pub deposits_within : DepositsWithin deposit_limit
deposits_within rows h nets small c =
    parts_small (bought rounded rows nets c) (sold rounded rows nets c) _ _ _ (sums_within rows h nets small c)
    (part_small (figure (λ r. r.y) (rows.classes c)) _ (figure_small (λ r. r.y) c (λ r l. l.y_small) (rows.classes c) (h.of_classes c)))
    (part_small (figure (λ r. r.x) (rows.classes c)) _ (figure_small (λ r. r.x) c (λ r l. l.x_small) (rows.classes c) (h.of_classes c)))
    (part_small (figure (λ r. r.dep) (rows.classes c)) _ (figure_small (λ r. r.dep) c (λ r l. l.dep_small) (rows.classes c) (h.of_classes c)))

pub spans_within : SpansWithin span_limit
spans_within rows h nets small =
    below (DSPAN rounded rows nets) (sum_below class_count (risk rounded rows nets)) (sum_below class_count (KSPK rounded rows nets)) (sum_minus class_count (risk rounded rows nets) (KSPK rounded rows nets))
    (omega (
      arith,
      sum_const class_count deposit_limit,
      sum_le class_count (risk rounded rows nets) (λ c. deposit_limit) (λ c l. deposits_within rows h nets small c),
    ))
  where
    below : (z : ℤ) (a b : ℕ) → z ≡ pos a -ℤ pos b → a ≤ span_limit → z ≤ℤ pos span_limit
    below z a b e l = omega (arith, ints)
