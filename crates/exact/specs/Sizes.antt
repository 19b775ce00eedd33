-- The largest numbers of an exact margin whose amounts are within their limit. They fit 127 bits. Assumes nothing.
use Rattle.std.specs.Prelude.{ℕ, ◌+◌, ◌*◌, ◌/◌}
use Rattle.terms.specs.Limits.{security_count, whole, duration_limit, amount_limit}
use Rattle.terms.specs.Money.{rate_one}

-- units times price times currency rate: A rounds to at most its limit
abbrev pub product_limit : ℕ
product_limit = rate_one * amount_limit + rate_one / 2

-- the value of a position, and the two sums of a class together, in 10^-14 zloty
abbrev pub worth_limit : ℕ
worth_limit = product_limit * duration_limit

abbrev pub worths_limit : ℕ
worths_limit = security_count * worth_limit

-- a part of a class, and its credits, in 10^-19 zloty
abbrev pub part_limit : ℕ
part_limit = whole * worths_limit

-- what a class owes before its credits: three parts
abbrev pub owed_limit : ℕ
owed_limit = 3 * part_limit
