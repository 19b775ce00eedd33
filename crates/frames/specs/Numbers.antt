-- Laws of hexadecimal text, each over the number of digits. Assumes nothing.
use Rattle.std.specs.Prelude.{◌≡◌, ℕ, zero, suc, ◌+◌, ◌*◌, ◌/◌, ◌%◌, ◌^◌, ◌<◌, ◌≤◌, true, ◌&&◌, List, [], ◌∷◌, ◌++◌, map, length, take, drop, slice_index, slice_set, refl}
use Rattle.std.proofs.Common.{sym, ap, subst, ◌∙◌, append_assoc, arith, pow-suc, length-append}
use Rattle.std.proofs.Math.Nat.{pow-zero, pow-le-pow_right}
use Rattle.std.proofs.lemmas.Bool.Decides.{nat_tests, Decides-ltb}
use Rattle.std.proofs.ByRecursion.{Decides-by_and, All-map, All-get_or, All-append, All-take}
use Rattle.std.proofs.lemmas.Nat.{div_below}
use Rattle.std.proofs.lemmas.List.{map_push, take-map, get_or-map, take_more_same, take_all, length-take-le, drop-set, drop_more, length-map}
use Rattle.std.proofs.lemmas.Int.Digits.{number_push, number_more, number_lt}
use Rattle.std.specs.Int.Digits.{number_from_digits, AllBelowBase}
use Rattle.std.specs.List.{AllByRecursion}
use Rattle.frames.specs.Hex.{digit_of, value_of, is_digit, are_digits, number_of, digits_of}

-- the value of a digit's code, and the code of a digit's value
pub value_digit : (v : ℕ) → v < 16 → value_of (digit_of v) ≡ v
value_digit v h = grind (arith, nat_tests)

-- no two codes have one value
pub same_code : (x y : ℕ) → value_of x < 16 → value_of x ≡ value_of y → x ≡ y
same_code x y h e = grind (arith, nat_tests)

-- every code of the text is a digit, as a fact of each
abbrev pub Hex : List ℕ → Type 0
Hex = AllByRecursion (λ c. value_of c < 16)

pub hex_from : (text : List ℕ) → are_digits text ≡ true → Hex text
hex_from text = (Decides-by_and is_digit (λ c. value_of c < 16) are_digits (λ c. Decides-ltb (value_of c) 16) refl (λ _ _. refl) text).0

pub hex_digits : (text : List ℕ) → Hex text → are_digits text ≡ true
hex_digits text = (Decides-by_and is_digit (λ c. value_of c < 16) are_digits (λ c. Decides-ltb (value_of c) 16) refl (λ _ _. refl) text).1

under : (text : List ℕ) → Hex text → AllBelowBase 16 (map value_of text)
under text h = All-map (λ d. d < 16) value_of text h

-- what k digits write is below 16 to the k
pub number_below : (text : List ℕ) → Hex text → number_of text < 16 ^ length text
number_below text h = subst (λ k. number_of text < 16 ^ k) (length-map text value_of) (number_lt 16 (map value_of text) (under text h))

-- one digit more
pub number_next : (text : List ℕ) (i : ℕ) → i < length text → number_of (take (i + 1) text) ≡ number_of (take i text) * 16 + value_of (slice_index text i)
number_next text i h =
    let within : i < length (map value_of text) = omega (arith, length-map text value_of) in
    ap (number_from_digits 16) (sym (take-map value_of (i + 1) text)) ∙ number_more 16 (map value_of text) i within
    ∙ ap (λ n. n * 16 + slice_index (map value_of text) i) (ap (number_from_digits 16) (take-map value_of i text))
    ∙ ap (λ d. number_of (take i text) * 16 + d) (get_or-map value_of text i 0 0 h)

pub length_digits_of : (k n : ℕ) → length (digits_of k n) ≡ k
length_digits_of zero n = refl
length_digits_of (suc k) n = omega (arith, length-append (digits_of k (n / 16)) (digit_of (n % 16) ∷ []), length_digits_of k (n / 16))

pub hex_digits_of : (k n : ℕ) → Hex (digits_of k n)
hex_digits_of zero n = tt
hex_digits_of (suc k) n =
    let low : n % 16 < 16 = omega arith in
    All-append (λ c. value_of c < 16) (digits_of k (n / 16)) (digit_of (n % 16) ∷ []) (hex_digits_of k (n / 16)) (omega (arith, value_digit (n % 16) low), tt)

-- the digits of a number write it
pub number_digits_of : (k n : ℕ) → n < 16 ^ k → number_of (digits_of k n) ≡ n
number_digits_of zero n h = omega (arith, pow-zero 16)
number_digits_of (suc k) n h =
    let low : n % 16 < 16 = omega arith in
    let high : n / 16 < 16 ^ k = div_below n 16 (16 ^ k) (omega arith) (omega (arith, pow-suc 16 k)) in
    ap (number_from_digits 16) (map_push value_of (digits_of k (n / 16)) (digit_of (n % 16))) ∙ number_push 16 (map value_of (digits_of k (n / 16))) (value_of (digit_of (n % 16)))
    ∙ omega (arith, number_digits_of k (n / 16) high, value_digit (n % 16) low)

-- two texts of digits that are as long and write one number are the same
same_front : (xs ys : List ℕ) → Hex xs → Hex ys → (i : ℕ) → i ≤ length xs → i ≤ length ys → number_of (take i xs) ≡ number_of (take i ys) → take i xs ≡ take i ys
same_front xs ys p q zero h k e = refl
same_front xs ys p q (suc i) h k e =
    let in_xs : i < length xs = omega arith in
    let in_ys : i < length ys = omega arith in
    let x : value_of (slice_index xs i) < 16 = All-get_or (λ c. value_of c < 16) xs i 0 in_xs p in
    let y : value_of (slice_index ys i) < 16 = All-get_or (λ c. value_of c < 16) ys i 0 in_ys q in
    let one : suc i ≡ i + 1 = omega arith in
    let both : number_of (take i xs) * 16 + value_of (slice_index xs i) ≡ number_of (take i ys) * 16 + value_of (slice_index ys i) =
    sym (number_next xs i in_xs) ∙ ap (λ j. number_of (take j xs)) (sym one) ∙ e ∙ ap (λ j. number_of (take j ys)) one ∙ number_next ys i in_ys in
    ap (λ j. take j xs) one ∙ take_more_same xs ys i 0 in_xs in_ys
    (same_front xs ys p q i (omega arith) (omega arith) (omega arith))
    (same_code (slice_index xs i) (slice_index ys i) x (omega arith))
    ∙ ap (λ j. take j ys) (sym one)

pub same_text : (xs ys : List ℕ) → Hex xs → Hex ys → length xs ≡ length ys → number_of xs ≡ number_of ys → xs ≡ ys
same_text xs ys p q l e =
    let whole_xs : take (length xs) xs ≡ xs = take_all (length xs) xs (omega arith) in
    let whole_ys : take (length xs) ys ≡ ys = take_all (length xs) ys (omega arith) in
    sym whole_xs ∙ same_front xs ys p q (length xs) (omega arith) (omega arith) (ap number_of whole_xs ∙ e ∙ ap number_of (sym whole_ys)) ∙ whole_ys

-- a text of digits is the one that is written of its number
pub digits_of_number : (text : List ℕ) → Hex text → digits_of (length text) (number_of text) ≡ text
digits_of_number text h =
    same_text (digits_of (length text) (number_of text)) text (hex_digits_of (length text) (number_of text)) h
    (length_digits_of (length text) (number_of text))
    (number_digits_of (length text) (number_of text) (number_below text h))

-- a number of sixteen digits at most fits 64 bits while it is read
pub number_room : (text : List ℕ) (i : ℕ) → Hex text → length text ≤ 16 → i < length text → number_of (take i text) * 16 + 16 ≤ 2 ^ 64
number_room text i h few lt =
    let below : number_of (take i text) < 16 ^ i =
    subst (λ k. number_of (take i text) < 16 ^ k) (length-take-le i text (omega arith)) (number_below (take i text) (All-take (λ c. value_of c < 16) i text h)) in
    let low : i ≤ 15 = omega arith in
    let power : 16 ^ i ≤ 16 ^ 15 = pow-le-pow_right {n = 16} (omega arith) low in
    omega arith

-- every code of a text of digits has a value below 16
pub digit_small : (text : List ℕ) (i : ℕ) → Hex text → i < length text → value_of (slice_index text i) < 16
digit_small text i h lt = All-get_or (λ c. value_of c < 16) text i 0 lt h

-- the test of what is left of a text, one code on
pub digits_next : (text : List ℕ) (i : ℕ) → i < length text → are_digits (drop i text) ≡ (is_digit (slice_index text i) && are_digits (drop (i + 1) text))
digits_next text i h = ap are_digits (drop_more text i 0 h)

-- one digit is written, before those that are
pub write_next : (field : List ℕ) (i rest d : ℕ) (whole : List ℕ) → i < length field → d ≡ digit_of (rest % 16) → digits_of (suc i) rest ++ drop (i + 1) field ≡ whole → digits_of i (rest / 16) ++ drop i (slice_set field i d) ≡ whole
write_next field i rest d whole h is so =
    ap (λ l. digits_of i (rest / 16) ++ l) (drop-set field i d h ∙ ap (λ x. x ∷ drop (i + 1) field) is)
    ∙ sym (append_assoc (digits_of i (rest / 16)) (digit_of (rest % 16) ∷ []) (drop (i + 1) field)) ∙ so
