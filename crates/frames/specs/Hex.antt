-- Hexadecimal text: the digits 0-9 and A-F, upper case only, by their codes, and the numbers that they write.
-- Assumes nothing.
use Rattle.std.specs.Prelude.{ℕ, zero, suc, ◌+◌, ◌-◌, ◌/◌, ◌%◌, Bool, cond, ◌&&◌, List, [], ◌∷◌, ◌++◌, map, nat_le, nat_lt}
use Rattle.std.specs.Int.Digits.{number_from_digits}
use Rattle.std.specs.List.{list_all}

-- the code of the digit whose value is v, for v below 16
abbrev pub digit_of : ℕ → ℕ
digit_of v = cond (nat_lt v 10) (v + 48) (v + 55)

-- the value of the digit whose code is c, and 16 where c is no digit
abbrev pub value_of : ℕ → ℕ
value_of c = cond (nat_le 48 c && nat_le c 57) (c - 48) (cond (nat_le 65 c && nat_le c 70) (c - 55) 16)

abbrev pub is_digit : ℕ → Bool
is_digit c = nat_lt (value_of c) 16

-- every code of the text is a digit
abbrev pub are_digits : List ℕ → Bool
are_digits = list_all is_digit

-- the number that the digits of a text write, high digit first
abbrev pub number_of : List ℕ → ℕ
number_of text = number_from_digits 16 (map value_of text)

-- the last k digits of n, high digit first
abbrev pub digits_of : ℕ → ℕ → List ℕ
digits_of zero n = []
digits_of (suc k) n = digits_of k (n / 16) ++ (digit_of (n % 16) ∷ [])
