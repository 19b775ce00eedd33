-- The positions of a portfolio, valued, and their sums by class. Assumes nothing.
use Rattle.std.specs.Prelude.{◌≡◌, ℕ, ◌<◌, ◌≤◌, Bool, true, false, cond, nat_lt, List, length, ℤ, pos, negsuc, Some, None, Option, Result, ◌==◌, slice_index_or, unsigned_abs}
use Rattle.terms.specs.Limits.{class_count, security_count}
use Rattle.terms.specs.Outcomes.{Answers}
use Rattle.terms.specs.declared.choice.Side.{Side}
use Rattle.terms.specs.declared.choice.Side.TheVariants.{Bought, Sold}
use Rattle.terms.specs.declared.fault.Fault.{Fault}
use Rattle.terms.specs.declared.money.Zloty.{Zloty}
use Rattle.terms.specs.declared.refusal.Refusal.{Refusal}
use Rattle.rules.specs.declared.rows.SecurityRow.{SecurityRow}
use Rattle.terms.specs.Sums.{sum_below, count_below}
use Rattle.rules.specs.Rows.{Rows}
use Rattle.rules.specs.Margin.{rounded, worth}
use Rattle.rules.specs.Held.{held}
use Rattle.rules.specs.Laws.{value_limit}
use Rattle.positions.specs.declared.position.Position.{Position}
use Rattle.positions.specs.declared.position.Valuation.{Valuation}
use Rattle.positions.specs.declared.position.Valuation.TheVariants.{Flat, Valued, Refused}
use Rattle.positions.specs.Questions.{portfolio_fault, held_refusal}

-- so many zloty units
abbrev pub zl : ℕ → Zloty
zl n = record { units = n }

-- the side of a net
abbrev pub side_of_lem : ℤ → Side
side_of_lem (pos n) = Bought
side_of_lem (negsuc n) = Sold

-- a position of net n at a row
abbrev pub position_at : Rows → ℤ → Option SecurityRow → Option Position
position_at rows n None = None
position_at rows n (Some r) = Some (record { class = r.class; side = side_of_lem n; value = zl (worth rounded rows (unsigned_abs n) (Some r)) })

-- the position in a security, if it is held
abbrev pub position_of : Rows → (ℕ → ℤ) → ℕ → Option Position
position_of rows nets s = cond (held nets s) (position_at rows (nets s) (rows.securities s)) None

-- what a security is, by why it is refused and by its position, if there is either
abbrev pub judged : Option Refusal → Option Position → Valuation
judged (Some refusal) p = Refused refusal
judged None (Some p) = Valued p
judged None None = Flat

abbrev pub valuation_of : Rows → (ℕ → ℤ) → ℕ → Valuation
valuation_of rows nets s = judged (held_refusal rows nets s) (position_of rows nets s)

-- each security of a portfolio is valued, and none is refused
pub record AllValued (rows : Rows) (nets : ℕ → ℤ) (all : List Valuation) : Type 0 where
  pub long : length all ≡ security_count
  pub each : (s : ℕ) → s < security_count → slice_index_or all s Flat ≡ valuation_of rows nets s
  pub asked : (s : ℕ) → s < security_count → held_refusal rows nets s ≡ None

-- What valuing a portfolio answers: the fault of the first held security that has one, or what each security is.
abbrev pub Values : Rows → (ℕ → ℤ) → Result (List Valuation) Fault → Type 0
Values rows nets = Answers (portfolio_fault rows nets) (AllValued rows nets)

-- ---- sums by class

-- whether there is a position
abbrev pub is_valued_lem : Valuation → Bool
is_valued_lem Flat = false
is_valued_lem (Valued p) = true
is_valued_lem (Refused refusal) = false

-- whether a position is one of class c
abbrev pub placed : ℕ → Valuation → Bool
placed c Flat = false
placed c (Valued p) = p.class == c
placed c (Refused refusal) = false

-- a value on a side, as bought and as sold
abbrev pub as_bought : Side → ℕ → ℕ
as_bought Bought v = v
as_bought Sold v = 0

abbrev pub as_sold : Side → ℕ → ℕ
as_sold Bought v = 0
as_sold Sold v = v

-- what a position adds to PK and PS of class c, and to the held securities of c
abbrev pub bought_share : ℕ → Valuation → ℕ
bought_share c Flat = 0
bought_share c (Refused refusal) = 0
bought_share c (Valued p) = cond (p.class == c) (as_bought p.side p.value.units) 0

abbrev pub sold_share : ℕ → Valuation → ℕ
sold_share c Flat = 0
sold_share c (Refused refusal) = 0
sold_share c (Valued p) = cond (p.class == c) (as_sold p.side p.value.units) 0

abbrev pub held_share : ℕ → Valuation → ℕ
held_share c p = cond (placed c p) 1 0

-- PK and PS of a class, over the first n positions
abbrev pub bought_in : List Valuation → ℕ → ℕ → ℕ
bought_in all c n = sum_below n (λ s. bought_share c (slice_index_or all s Flat))

abbrev pub sold_in : List Valuation → ℕ → ℕ → ℕ
sold_in all c n = sum_below n (λ s. sold_share c (slice_index_or all s Flat))

-- how many of the first n positions are held, in a class and in all
abbrev pub count_in_lem : List Valuation → ℕ → ℕ → ℕ
count_in_lem all c n = sum_below n (λ s. held_share c (slice_index_or all s Flat))

abbrev pub count_all_lem : List Valuation → ℕ → ℕ
count_all_lem all n = count_below n (λ s. is_valued_lem (slice_index_or all s Flat))

-- what a position is worth
abbrev pub worth_of : Valuation → ℕ
worth_of Flat = 0
worth_of (Valued p) = p.value.units
worth_of (Refused refusal) = 0

-- whether its class is one that there is
abbrev pub class_listed : Valuation → Bool
class_listed Flat = true
class_listed (Valued p) = nat_lt p.class class_count
class_listed (Refused refusal) = true

abbrev pub Listed : List Valuation → Type 0
Listed all = (s : ℕ) → class_listed (slice_index_or all s Flat) ≡ true

-- no position is worth more than the largest value
abbrev pub Small : List Valuation → Type 0
Small all = (s : ℕ) → worth_of (slice_index_or all s Flat) ≤ value_limit
