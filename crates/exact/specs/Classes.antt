-- The sums, leftovers and credits of the classes, as the steps of the exact margin leave them. Assumes nothing.
use Rattle.std.specs.Prelude.{◌≡◌, ℕ, ◌+◌, ◌<◌, min, cond, List, length, ℤ, pos, ◌-ℤ◌, slice_index_or, unsigned_abs}
use borrow.Author.Differences.{up, down}
use Rattle.terms.specs.Limits.{class_count}
use Rattle.terms.specs.declared.choice.ClassKind.{ClassKind}
use Rattle.rules.specs.declared.rows.SecurityRow.{SecurityRow}
use Rattle.terms.specs.Sums.{sum_below}
use Rattle.rules.specs.Rows.{Rows}
use Rattle.rules.specs.Margin.{exact, factor, in_class, worth}
use Rattle.sheets.specs.Readings.{Figures}
use Rattle.exact.specs.declared.records.Class.{Class}
use Rattle.exact.specs.declared.records.Sums.{Sums}

-- ---- what is bought and sold

-- nothing
abbrev pub nothing : Sums
nothing = record { bought = 0; sold = 0 }

-- the sums of two parts of a portfolio together
abbrev pub plus : Sums → Sums → Sums
plus a b = record { bought = a.bought + b.bought; sold = a.sold + b.sold }

-- a net quantity at a security's row, in a class of this kind: as bought and as sold
abbrev pub worth_at : ℤ → SecurityRow → ClassKind → Sums
worth_at net r kind = record {
  bought = exact.value (up net) r.price r.rate (factor kind r.duration);
  sold = exact.value (down net) r.price r.rate (factor kind r.duration);
}

-- what a security adds to the sums of class c, of the units of each
abbrev pub share : Rows → (ℕ → ℕ) → ℕ → ℕ → ℕ
share rows units c s = cond (in_class rows c s) (worth exact rows (units s) (rows.securities s)) 0

-- the sums of class c over the securities below n
abbrev pub sums_to : Rows → (ℕ → ℤ) → ℕ → ℕ → Sums
sums_to rows nets n c = record { bought = sum_below n (share rows (λ s. up (nets s)) c); sold = sum_below n (share rows (λ s. down (nets s)) c) }

-- these are the sums of all classes, over the securities below n
pub record SumsTo (rows : Rows) (nets : ℕ → ℤ) (n : ℕ) (xs : List Sums) : Type 0 where
  pub long : length xs ≡ class_count
  pub each : (c : ℕ) → c < class_count → slice_index_or xs c nothing ≡ sums_to rows nets n c

-- ---- what is left, and the credits

-- y of |PK − PS|, x of PK + PS, and dep of the smaller
abbrev pub risk_by : Figures → Sums → ℕ
risk_by rates s =
    exact.part rates.y (unsigned_abs (pos s.bought -ℤ pos s.sold))
    + exact.part rates.x (s.bought + s.sold)
    + exact.part rates.dep (min s.bought s.sold)

-- nothing is owed, left or credited
abbrev pub none : Class
none = record { risk = 0; leftover = pos 0; credits = 0 }

-- a class before any pair is served: its whole net value is left, with no credit
abbrev pub class_opened : Figures → Sums → Class
class_opened rates s = record { risk = risk_by rates s; leftover = pos s.bought -ℤ pos s.sold; credits = 0 }

abbrev pub left_of : List Class → ℕ → ℤ
left_of cs c = (slice_index_or cs c none).leftover

-- a class with another leftover and other credits
abbrev pub walked : Class → ℤ → ℕ → Class
walked w left credits = record { risk = w.risk; leftover = left; credits = credits }
