-- A whole line: its kind byte, its fields, and the questions that it is asked. Assumes nothing.
use Rattle.std.proofs.Common.{◌≡◌, ℕ, ◌+◌, ◌*◌, ◌%◌, ◌<◌, ◌≤◌, true, List, [], ◌∷◌, ◌++◌, length, get_or, take, drop, sym, ap, ◌∙◌, append_assoc}
use Rattle.std.proofs.ByRecursion.{All-take, All-drop}
use Rattle.std.proofs.lemmas.List.{drop_more}
use Rattle.std.proofs.lemmas.Bool.{and_from, eq-eqb, le-leb}
use Rattle.frames.specs.Frames.{hexadecimal}
use Rattle.frames.specs.Fields.{numbers_of, bytes}
use Rattle.frames.specs.Hex.{value_of, are_digits, number_of}
use Rattle.frames.specs.Numbers.{hex_from, hex_digits}

pub is_hexadecimal : (line : List ℕ) → are_digits line ≡ true → length line % 2 ≡ 0 → 2 ≤ length line → hexadecimal line ≡ true
is_hexadecimal line digits even two = and_from _ _ digits (and_from _ _ (eq-eqb (length line % 2) 0 even) (le-leb 2 (length line) two))

-- a part of a text of digits is digits
pub digits_front : (n : ℕ) (text : List ℕ) → are_digits text ≡ true → are_digits (take n text) ≡ true
digits_front n text digits = hex_digits (take n text) (All-take (λ c. value_of c < 16) n text (hex_from text digits))

pub digits_rest : (n : ℕ) (text : List ℕ) → are_digits text ≡ true → are_digits (drop n text) ≡ true
digits_rest n text digits = hex_digits (drop n text) (All-drop (λ c. value_of c < 16) n text (hex_from text digits))

-- the fields from one place on have the field there, and those from the next place on
pub bytes_next : (widths : List ℕ) (place : ℕ) → place < length widths → bytes (drop place widths) ≡ get_or widths place 0 + bytes (drop (place + 1) widths)
bytes_next widths place h = ap bytes (drop_more widths place 0 h)

pub read_next : (widths rest numbers whole : List ℕ) (place : ℕ) → place < length widths → numbers ++ numbers_of (drop place widths) rest ≡ whole
    → (numbers ++ (number_of (take (2 * get_or widths place 0) rest) ∷ [])) ++ numbers_of (drop (place + 1) widths) (drop (2 * get_or widths place 0) rest) ≡ whole
read_next widths rest numbers whole place h so =
    append_assoc numbers (number_of (take (2 * get_or widths place 0) rest) ∷ []) (numbers_of (drop (place + 1) widths) (drop (2 * get_or widths place 0) rest))
    ∙ sym (ap (λ l. numbers ++ numbers_of l rest) (drop_more widths place 0 h))
    ∙ so
