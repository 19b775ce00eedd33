-- Fields of a frame: numbers of so many bytes each, high byte first, two digits a byte.
-- Assumes nothing.
use Rattle.std.specs.Prelude.{ℕ, ◌+◌, ◌*◌, ◌^◌, Bool, true, false, ◌&&◌, List, [], ◌∷◌, ◌++◌, take, drop, nat_lt}
use Rattle.frames.specs.Hex.{number_of, digits_of}

-- the text of these numbers in fields of these widths
abbrev pub text_of : List ℕ → List ℕ → List ℕ
text_of [] numbers = []
text_of (w ∷ widths) [] = []
text_of (w ∷ widths) (n ∷ numbers) = digits_of (2 * w) n ++ text_of widths numbers

-- the numbers that a text writes in fields of these widths
abbrev pub numbers_of : List ℕ → List ℕ → List ℕ
numbers_of [] text = []
numbers_of (w ∷ widths) text = number_of (take (2 * w) text) ∷ numbers_of widths (drop (2 * w) text)

-- each number fits its field, and there are as many numbers as fields
abbrev pub carries : List ℕ → List ℕ → Bool
carries [] [] = true
carries [] (n ∷ numbers) = false
carries (w ∷ widths) [] = false
carries (w ∷ widths) (n ∷ numbers) = nat_lt n (16 ^ (2 * w)) && carries widths numbers

-- how many bytes the fields have together
abbrev pub bytes : List ℕ → ℕ
bytes [] = 0
bytes (w ∷ widths) = w + bytes widths
