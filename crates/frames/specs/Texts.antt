-- The text of numbers in fields, and the numbers of a text, over the widths of the fields. Assumes nothing.
use Rattle.std.specs.Prelude.{◌≡◌, ℕ, ◌+◌, ◌*◌, ◌^◌, ◌<◌, true, List, [], ◌∷◌, ◌++◌, length, take, drop, nat_lt, refl}
use Rattle.std.proofs.Common.{sym, ap, subst, ◌∙◌, arith, length-append, length-drop, take-append-drop}
use Rattle.std.proofs.ByRecursion.{All-append, All-take, All-drop}
use Rattle.std.proofs.lemmas.List.{take_at, drop_at, length-take-le, nil_from_length}
use Rattle.std.proofs.lemmas.Bool.{and_parts, and_from, lt-ltb, ltb-true, false≢true}
use Rattle.frames.specs.Fields.{text_of, numbers_of, carries, bytes}
use Rattle.frames.specs.Frames.{line_of}
use Rattle.frames.specs.Hex.{value_of, number_of, digits_of}
use Rattle.frames.specs.Kinds.{Kind}
use Rattle.frames.specs.Numbers.{Hex, length_digits_of, hex_digits_of, number_below, number_digits_of, digits_of_number}

-- a text that is written of numbers that fit tells them
pub numbers_text : (widths numbers : List ℕ) → carries widths numbers ≡ true → numbers_of widths (text_of widths numbers) ≡ numbers
numbers_text [] [] h = refl
numbers_text [] (n ∷ numbers) h = absurd (false≢true h)
numbers_text (w ∷ widths) [] h = absurd (false≢true h)
numbers_text (w ∷ widths) (n ∷ numbers) h =
    let parts = and_parts (nat_lt n (16 ^ (2 * w))) (carries widths numbers) h in
    let long = length_digits_of (2 * w) n in
    let front : take (2 * w) (digits_of (2 * w) n ++ text_of widths numbers) ≡ digits_of (2 * w) n = take_at _ _ (2 * w) long in
    let rest : drop (2 * w) (digits_of (2 * w) n ++ text_of widths numbers) ≡ text_of widths numbers = drop_at _ _ (2 * w) long in
    ap (λ t. number_of t ∷ numbers_of widths (drop (2 * w) (digits_of (2 * w) n ++ text_of widths numbers))) front
    ∙ ap (λ m. m ∷ numbers_of widths (drop (2 * w) (digits_of (2 * w) n ++ text_of widths numbers))) (number_digits_of (2 * w) n (ltb-true n _ parts.0))
    ∙ ap (λ t. n ∷ numbers_of widths t) rest
    ∙ ap (λ l. n ∷ l) (numbers_text widths numbers parts.1)

-- a text of digits, as long as the fields, is the one that is written of its numbers
pub text_numbers : (widths text : List ℕ) → Hex text → length text ≡ 2 * bytes widths → text_of widths (numbers_of widths text) ≡ text
text_numbers [] text hex long = sym (nil_from_length text (omega arith))
text_numbers (w ∷ widths) text hex long =
    let front : length (take (2 * w) text) ≡ 2 * w = length-take-le (2 * w) text (omega arith) in
    let rest : length (drop (2 * w) text) ≡ 2 * bytes widths = omega (arith, length-drop (2 * w) text) in
    let whole : digits_of (2 * w) (number_of (take (2 * w) text)) ≡ take (2 * w) text =
    ap (λ k. digits_of k (number_of (take (2 * w) text))) (sym front) ∙ digits_of_number (take (2 * w) text) (All-take (λ c. value_of c < 16) (2 * w) text hex) in
    ap (λ t. t ++ text_of widths (numbers_of widths (drop (2 * w) text))) whole
    ∙ ap (λ t. take (2 * w) text ++ t) (text_numbers widths (drop (2 * w) text) (All-drop (λ c. value_of c < 16) (2 * w) text hex) rest)
    ∙ take-append-drop (2 * w) text

pub length_text : (widths numbers : List ℕ) → carries widths numbers ≡ true → length (text_of widths numbers) ≡ 2 * bytes widths
length_text [] [] h = refl
length_text [] (n ∷ numbers) h = absurd (false≢true h)
length_text (w ∷ widths) [] h = absurd (false≢true h)
length_text (w ∷ widths) (n ∷ numbers) h =
    let parts = and_parts (nat_lt n (16 ^ (2 * w))) (carries widths numbers) h in
    omega (arith, length-append (digits_of (2 * w) n) (text_of widths numbers), length_digits_of (2 * w) n, length_text widths numbers parts.1)

pub length_line : (k : Kind) (numbers : List ℕ) → carries k.widths numbers ≡ true → length (line_of k numbers) ≡ 2 + 2 * bytes k.widths
length_line k numbers h = omega (arith, length-append (digits_of 2 k.byte) (text_of k.widths numbers), length_digits_of 2 k.byte, length_text k.widths numbers h)

pub same_count : (widths numbers : List ℕ) → carries widths numbers ≡ true → length numbers ≡ length widths
same_count [] [] h = refl
same_count [] (n ∷ numbers) h = absurd (false≢true h)
same_count (w ∷ widths) [] h = absurd (false≢true h)
same_count (w ∷ widths) (n ∷ numbers) h = let parts = and_parts (nat_lt n (16 ^ (2 * w))) (carries widths numbers) h in omega (arith, same_count widths numbers parts.1)

pub hex_text : (widths numbers : List ℕ) → Hex (text_of widths numbers)
hex_text [] numbers = tt
hex_text (w ∷ widths) [] = tt
hex_text (w ∷ widths) (n ∷ numbers) = All-append (λ c. value_of c < 16) (digits_of (2 * w) n) (text_of widths numbers) (hex_digits_of (2 * w) n) (hex_text widths numbers)

-- the numbers of a text of digits fit its fields
pub carried_numbers : (widths text : List ℕ) → Hex text → length text ≡ 2 * bytes widths → carries widths (numbers_of widths text) ≡ true
carried_numbers [] text hex long = refl
carried_numbers (w ∷ widths) text hex long =
    let front : length (take (2 * w) text) ≡ 2 * w = length-take-le (2 * w) text (omega arith) in
    let rest : length (drop (2 * w) text) ≡ 2 * bytes widths = omega (arith, length-drop (2 * w) text) in
    let below : number_of (take (2 * w) text) < 16 ^ (2 * w) = subst (λ k. number_of (take (2 * w) text) < 16 ^ k) front (number_below (take (2 * w) text) (All-take (λ c. value_of c < 16) (2 * w) text hex)) in
    and_from _ _ (lt-ltb (number_of (take (2 * w) text)) (16 ^ (2 * w)) below) (carried_numbers widths (drop (2 * w) text) (All-drop (λ c. value_of c < 16) (2 * w) text hex) rest)
