-- What a portfolio holds: a security whose net is not 0, its class, and a pair both of whose classes are held. Assumes nothing.
use Rattle.std.specs.Prelude.{ℕ, ◌+◌, Bool, cond, ◌&&◌, List, [], ◌∷◌, ℤ, nat_lt, unsigned_abs}
use Rattle.terms.specs.Limits.{security_count, class_count}
use Rattle.rules.specs.declared.rows.PairRow.{PairRow}
use Rattle.terms.specs.Sums.{count_below}
use Rattle.rules.specs.Rows.{Rows}
use Rattle.rules.specs.Margin.{Rounding, TwoSums, in_class, sums_of}

abbrev pub held : (ℕ → ℤ) → ℕ → Bool
held nets s = nat_lt 0 (unsigned_abs (nets s))

-- how many securities of a class are held
unfoldable pub held_in : Rows → (ℕ → ℤ) → ℕ → ℕ
held_in rows nets c = count_below security_count (λ s. in_class rows c s && held nets s)

abbrev pub held_class : Rows → (ℕ → ℤ) → ℕ → Bool
held_class rows nets c = nat_lt 0 (held_in rows nets c)

-- N
abbrev pub securities_held : (ℕ → ℤ) → ℕ
securities_held nets = count_below security_count (held nets)

-- how many of the pairs pass the test
abbrev pub count_pairs : (PairRow → Bool) → List PairRow → ℕ
count_pairs t [] = 0
count_pairs t (p ∷ ps) = cond (t p) 1 0 + count_pairs t ps

-- C and R, by which classes are held
abbrev pub classes_in : (ℕ → Bool) → ℕ
classes_in held = count_below class_count held

abbrev pub both_in : (ℕ → Bool) → PairRow → Bool
both_in held p = held p.first && held p.second

abbrev pub pairs_in : (ℕ → Bool) → List PairRow → ℕ
pairs_in held ps = count_pairs (both_in held) ps

abbrev pub classes_held : Rows → (ℕ → ℤ) → ℕ
classes_held rows nets = classes_in (held_class rows nets)

abbrev pub both_held : Rows → (ℕ → ℤ) → PairRow → Bool
both_held rows nets = both_in (held_class rows nets)

abbrev pub pairs_held : Rows → (ℕ → ℤ) → ℕ
pairs_held rows nets = pairs_in (held_class rows nets) rows.pairs

-- what a deposit is worked out from once the positions are summed: the two sums of each class, which classes are held, and how
-- many securities are
pub record Exposure : Type 0 where
  pub sums : TwoSums
  pub held : ℕ → Bool
  pub securities : ℕ

-- that of a portfolio
abbrev pub exposure_of : Rounding → Rows → (ℕ → ℤ) → Exposure
exposure_of k rows nets = record { sums = sums_of k rows nets; held = held_class rows nets; securities = securities_held nets }
