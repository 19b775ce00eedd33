-- Amounts of money, and the only ways from one kind to the next. Assumes nothing.
use Rattle.std.specs.Prelude.{◌≡◌, ℕ, ◌+◌, ◌-◌, ◌*◌, ◌/◌, ◌^◌, ◌≤◌, cond, min, Some, None, Option, nat_le}
use Rattle.terms.specs.declared.money.Zloty.{Zloty}
use Rattle.terms.specs.Limits.{whole, duration_one, amount_limit}

-- the largest amount, in zloty units or in grosz
abbrev pub largest : ℕ
largest = 2 ^ 64 - 1

-- the largest signed amount, in zloty units
abbrev pub largest_signed : ℕ
largest_signed = 2 ^ 63 - 1

-- The sum of two amounts: the largest amount where they come to more, so exact where they do not.
abbrev pub Sums : ℕ → ℕ → ℕ → Type 0
Sums a b sum = (sum ≡ min (a + b) largest) × (a + b ≤ largest → sum ≡ a + b)

-- a division to nearest, halves up
abbrev pub nearest : ℕ → ℕ → ℕ
nearest n d = (n + d / 2) / d

-- a currency rate of 1, in 10^-4 zloty
abbrev pub rate_one : ℕ
rate_one = 10000

-- the zloty units, 10^-4 zloty each, of a grosz
abbrev pub grosz_units : ℕ
grosz_units = 100

-- so many units at a price, in 10^-4 of the quotation currency
abbrev pub at_price_lem : ℕ → ℕ → ℕ
at_price_lem quantity price = quantity * price

-- an amount in quotation currency at a currency rate, in zloty units
abbrev pub in_zloty : ℕ → ℕ → ℕ
in_zloty quotation rate = nearest (quotation * rate) rate_one

-- an amount in zloty units times a duration
abbrev pub by_duration : ℕ → ℕ → ℕ
by_duration amount duration = nearest (amount * duration) duration_one

-- a percentage of an amount in zloty units, in grosz
abbrev pub percentage : ℕ → ℕ → ℕ
percentage percent amount = nearest (percent * amount) (whole * grosz_units)

-- the credit of a percentage of an amount in zloty units, rounded down to grosz
abbrev pub credited : ℕ → ℕ → ℕ
credited percent amount = percent * amount / (whole * grosz_units)

-- A and V of a position: the amount at a currency rate, and that amount times a duration; none where A is above the limit
abbrev pub valuation : ℕ → ℕ → ℕ → Option (Zloty × Zloty)
valuation quotation rate duration =
    let a : ℕ = in_zloty quotation rate in
    cond (nat_le a amount_limit) (Some (record { units = a }, record { units = by_duration a duration })) None
