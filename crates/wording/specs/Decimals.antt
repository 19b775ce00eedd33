-- Numbers as people write them, with a decimal point. Assumes nothing.
use Rattle.std.specs.Prelude.{ℕ, zero, suc, ◌/◌, ◌%◌, ◌^◌, List, [], ◌∷◌, ◌++◌, ℤ, pos, negsuc, decimal, codes}

-- the last k digits of n, before a text
abbrev pub places : ℕ → ℕ → List ℕ → List ℕ
places zero n text = text
places (suc k) n text = places k (n / 10) (decimal (n % 10) ++ text)

-- n units of 10^-k with k digits behind the point, before a text
abbrev pub decimals : ℕ → ℕ → List ℕ → List ℕ
decimals k n text = decimal (n / 10 ^ k) ++ (46 ∷ places k n text)

-- a part of the whole in 10^-5 of it, a price in 10^-4, a duration in 10^-6, an amount in grosz and one in 10^-4 zloty
unfoldable pub percent : ℕ → List ℕ
percent n = decimals 3 n (codes "%")

unfoldable pub price : ℕ → List ℕ
price n = decimals 4 n []

unfoldable pub duration : ℕ → List ℕ
duration n = decimals 6 n []

unfoldable pub money : ℕ → List ℕ
money n = decimals 2 n []

unfoldable pub amount : ℕ → List ℕ
amount n = decimals 4 n []

-- an amount in 10^-4 zloty that is left over: bought above 0, sold below
abbrev pub left_over : ℤ → List ℕ
left_over (pos zero) = codes "nothing"
left_over (pos (suc n)) = decimals 4 (suc n) (codes " bought")
left_over (negsuc n) = decimals 4 (suc n) (codes " sold")
