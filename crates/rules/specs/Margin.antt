-- The margin of a portfolio: the same steps with rounding, in zloty units and grosz, and exactly, in integers. Assumes nothing.
use Rattle.std.specs.Prelude.{ℕ, ◌+◌, ◌-◌, ◌*◌, ◌≤◌, min, max, Bool, false, cond, ◌||◌, List, [], ◌∷◌, ℤ, pos, negsuc, ◌-ℤ◌, Some, None, Option, ◌==◌, unsigned_abs}
use borrow.Author.Differences.{up, down}
use Rattle.terms.specs.declared.choice.ClassKind.{ClassKind}
use Rattle.terms.specs.declared.choice.ClassKind.TheVariants.{Liquidity, Duration}
use Rattle.terms.specs.declared.money.Zloty.{Zloty}
use Rattle.terms.specs.Limits.{security_count, class_count, duration_one, duration_floor, amount_limit}
use Rattle.terms.specs.Money.{at_price_lem, in_zloty, by_duration, percentage, credited, valuation}
use Rattle.rules.specs.declared.rows.ClassRow.{ClassRow}
use Rattle.rules.specs.declared.rows.SecurityRow.{SecurityRow}
use Rattle.rules.specs.declared.rows.PairRow.{PairRow}
use Rattle.terms.specs.Sums.{sum_below, sum_belowℤ}
use Rattle.rules.specs.Rows.{Rows, figure}

-- ---- what is rounded, and how

-- A: the amount of q units at a price and a currency rate, in zloty units
abbrev pub amount : ℕ → ℕ → ℕ → ℕ
amount q price rate = in_zloty (at_price_lem q price) rate

pub record Rounding : Type 0 where
  -- the value of a quantity at a price, a currency rate and a duration factor
  pub value : ℕ → ℕ → ℕ → ℕ → ℕ
  -- a percentage of an amount
  pub part : ℕ → ℕ → ℕ
  -- a credit of a matched amount
  pub credit : ℕ → ℕ → ℕ

-- values in zloty units, parts and credits in grosz
abbrev pub rounded : Rounding
rounded = record {
  value = λ q price rate d. by_duration (amount q price rate) d;
  part = percentage;
  credit = credited;
}

-- values in 10^-14 zloty, parts and credits in 10^-19 zloty
abbrev pub exact : Rounding
exact = record {
  value = λ q price rate d. q * price * rate * d;
  part = λ y amount. y * amount;
  credit = λ crt m. crt * m;
}

-- ---- the value of a position

-- the duration factor D: 1 in a liquidity class, else the duration, and at least the floor
abbrev pub factor : ClassKind → ℕ → ℕ
factor Liquidity d = duration_one
factor Duration d = max d duration_floor

-- the same by the row of the class
abbrev pub factor_in : Option ClassRow → ℕ → ℕ
factor_in (Some r) d = factor r.kind d
factor_in None d = 0

-- the value of q units at a security's row
abbrev pub worth : Rounding → Rows → ℕ → Option SecurityRow → ℕ
worth k rows q (Some r) = k.value q r.price r.rate (factor_in (rows.classes r.class) r.duration)
worth k rows q None = 0

-- the row is of a security of class c
abbrev pub has_class : ℕ → Option SecurityRow → Bool
has_class c (Some r) = r.class == c
has_class c None = false

abbrev pub in_class : Rows → ℕ → ℕ → Bool
in_class rows c s = has_class c (rows.securities s)

-- A of the units at a security's row
abbrev pub amount_of : ℕ → Option SecurityRow → ℕ
amount_of q (Some r) = amount q r.price r.rate
amount_of q None = 0

-- no amount of a position is above the limit
abbrev pub AmountsSmall : Rows → (ℕ → ℤ) → Type 0
AmountsSmall rows nets = (s : ℕ) → amount_of (unsigned_abs (nets s)) (rows.securities s) ≤ amount_limit

-- A and V of q units at a security's row, in a class of this kind; none where A is above the limit
abbrev pub position_value : ℕ → SecurityRow → ClassKind → Option (Zloty × Zloty)
position_value q r kind = valuation (at_price_lem q r.price) r.rate (factor kind r.duration)

-- ---- the two sums of a class

-- the value in class c of so many units of each security
unfoldable pub value_in : Rounding → Rows → (ℕ → ℕ) → ℕ → ℕ
value_in k rows units c = sum_below security_count (λ s. cond (in_class rows c s) (worth k rows (units s) (rows.securities s)) 0)

-- the two sums of every class, PK and PS
pub record TwoSums : Type 0 where
  pub bought : ℕ → ℕ
  pub sold : ℕ → ℕ

-- PK − PS
abbrev pub net_in : TwoSums → ℕ → ℤ
net_in sums c = pos (sums.bought c) -ℤ pos (sums.sold c)

-- those of a portfolio. `up n` are the units bought at a net n, and `down n` those sold
abbrev pub sums_of : Rounding → Rows → (ℕ → ℤ) → TwoSums
sums_of k rows nets = record { bought = value_in k rows (λ s. up (nets s)); sold = value_in k rows (λ s. down (nets s)) }

abbrev pub bought : Rounding → Rows → (ℕ → ℤ) → ℕ → ℕ
bought k rows nets = (sums_of k rows nets).bought

abbrev pub sold : Rounding → Rows → (ℕ → ℤ) → ℕ → ℕ
sold k rows nets = (sums_of k rows nets).sold

abbrev pub net_value : Rounding → Rows → (ℕ → ℤ) → ℕ → ℤ
net_value k rows nets = net_in (sums_of k rows nets)

-- ---- the walk over the pairs

-- the smaller magnitude where the signs are opposite, else 0
abbrev pub matched : ℤ → ℤ → ℕ
matched (pos a) (pos b) = 0
matched (pos a) (negsuc b) = min a (1 + b)
matched (negsuc a) (pos b) = min (1 + a) b
matched (negsuc a) (negsuc b) = 0

-- m units towards zero
abbrev pub towards : ℤ → ℕ → ℤ
towards z m = pos (up z - m) -ℤ pos (down z - m)

-- f with the value v at i
abbrev pub put : (ℕ → ℤ) → ℕ → ℤ → ℕ → ℤ
put f i v c = cond (c == i) v (f c)

-- the m of a pair at the leftovers f
abbrev pub match_of : (ℕ → ℤ) → PairRow → ℕ
match_of f p = matched (f p.first) (f p.second)

-- the leftovers after a pair: both of its classes move m towards zero
unfoldable pub step : (ℕ → ℤ) → PairRow → ℕ → ℤ
step f p =
    let m = match_of f p in
    put (put f p.first (towards (f p.first) m)) p.second (towards (f p.second) m)

-- the class is one of the pair's two
abbrev pub of_pair : PairRow → ℕ → Bool
of_pair p c = c == p.first || c == p.second

-- the matches of the walk, a pair after the other
abbrev pub matches : (ℕ → ℤ) → List PairRow → List ℕ
matches f [] = []
matches f (p ∷ ps) = match_of f p ∷ matches (step f p) ps

-- the leftovers after the walk
abbrev pub leftovers : (ℕ → ℤ) → List PairRow → ℕ → ℤ
leftovers f [] = f
leftovers f (p ∷ ps) = leftovers (step f p) ps

-- the credits of a class, summed over its pairs
abbrev pub credits : Rounding → (ℕ → ℤ) → List PairRow → ℕ → ℕ
credits k f [] c = 0
credits k f (p ∷ ps) c = cond (of_pair p c) (k.credit p.crt (match_of f p)) 0 + credits k (step f p) ps c

-- ---- the deposit of a class and of the portfolio, from the sums of the classes, whoever they are of

module _ (k : Rounding) (rows : Rows) (sums : TwoSums) where
  -- y of |PK − PS|
  abbrev pub DRR_from : ℕ → ℕ
  DRR_from c = k.part (figure (λ r. r.y) (rows.classes c)) (unsigned_abs (net_in sums c))

  -- x of PK + PS
  abbrev pub DRS_from : ℕ → ℕ
  DRS_from c = k.part (figure (λ r. r.x) (rows.classes c)) (sums.bought c + sums.sold c)

  -- dep of the smaller of PK and PS
  abbrev pub DSWK_from : ℕ → ℕ
  DSWK_from c = k.part (figure (λ r. r.dep) (rows.classes c)) (min (sums.bought c) (sums.sold c))

  -- the credits of the class
  abbrev pub KSPK_from : ℕ → ℕ
  KSPK_from c = credits k (net_in sums) rows.pairs c

  -- what a class owes
  abbrev pub DOLR_from : ℕ → ℤ
  DOLR_from c = pos (DRR_from c + DRS_from c + DSWK_from c) -ℤ pos (KSPK_from c)

  -- what the portfolio owes
  abbrev pub DSPAN_from : ℤ
  DSPAN_from = sum_belowℤ class_count DOLR_from

-- ---- the same of the nets of a portfolio

module _ (k : Rounding) (rows : Rows) (nets : ℕ → ℤ) where
  abbrev pub DRR : ℕ → ℕ
  DRR = DRR_from k rows (sums_of k rows nets)

  abbrev pub DRS : ℕ → ℕ
  DRS = DRS_from k rows (sums_of k rows nets)

  abbrev pub DSWK : ℕ → ℕ
  DSWK = DSWK_from k rows (sums_of k rows nets)

  abbrev pub KSPK : ℕ → ℕ
  KSPK = KSPK_from k rows (sums_of k rows nets)

  abbrev pub DOLR : ℕ → ℤ
  DOLR = DOLR_from k rows (sums_of k rows nets)

  abbrev pub DSPAN : ℤ
  DSPAN = DSPAN_from k rows (sums_of k rows nets)
