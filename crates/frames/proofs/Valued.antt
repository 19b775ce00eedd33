-- The tables of the values of all codes, and of the codes of all digits. Assumes nothing.
use Rattle.std.proofs.Common.{◌≡◌, ℕ, zero, suc, ◌+◌, ◌<◌, ◌≤◌, Bool, true, false, ◌&&◌, eqb, ltb, List, [], ◌∷◌, length, get_or, drop, sym, refl, ap, ⊎_elim, ◌∙◌, arith}
use Rattle.std.proofs.lemmas.Bool.{and_parts, and_from, eqb-true, cases_lt, lt-ltb, le-ltb}
use Rattle.std.proofs.lemmas.Nat.{or_lt, le_or_l, le_or_r}
use Rattle.std.specs.Prelude.{bit_or}
use Rattle.frames.specs.Hex.{value_of, digit_of, are_digits}
use Rattle.frames.specs.Numbers.{digits_next}

abbrev values : List ℕ
values = 16 ∷ 16 ∷ 16 ∷ 16 ∷ 16 ∷ 16 ∷ 16 ∷ 16 ∷ 16 ∷ 16 ∷ 16 ∷ 16 ∷ 16 ∷ 16 ∷ 16 ∷ 16 ∷ 16 ∷ 16 ∷ 16 ∷ 16 ∷ 16 ∷ 16 ∷ 16 ∷ 16 ∷ 16 ∷ 16 ∷ 16 ∷ 16 ∷ 16 ∷ 16 ∷ 16 ∷ 16 ∷ 16 ∷ 16 ∷ 16 ∷ 16 ∷ 16 ∷ 16 ∷ 16 ∷ 16 ∷ 16 ∷ 16 ∷ 16 ∷ 16 ∷ 16 ∷ 16 ∷ 16 ∷ 16 ∷ 0 ∷ 1 ∷ 2 ∷ 3 ∷ 4 ∷ 5 ∷ 6 ∷ 7 ∷ 8 ∷ 9 ∷ 16 ∷ 16 ∷ 16 ∷ 16 ∷ 16 ∷ 16 ∷ 16 ∷ 10 ∷ 11 ∷ 12 ∷ 13 ∷ 14 ∷ 15 ∷ 16 ∷ 16 ∷ 16 ∷ 16 ∷ 16 ∷ 16 ∷ 16 ∷ 16 ∷ 16 ∷ 16 ∷ 16 ∷ 16 ∷ 16 ∷ 16 ∷ 16 ∷ 16 ∷ 16 ∷ 16 ∷ 16 ∷ 16 ∷ 16 ∷ 16 ∷ 16 ∷ 16 ∷ 16 ∷ 16 ∷ 16 ∷ 16 ∷ 16 ∷ 16 ∷ 16 ∷ 16 ∷ 16 ∷ 16 ∷ 16 ∷ 16 ∷ 16 ∷ 16 ∷ 16 ∷ 16 ∷ 16 ∷ 16 ∷ 16 ∷ 16 ∷ 16 ∷ 16 ∷ 16 ∷ 16 ∷ 16 ∷ 16 ∷ 16 ∷ 16 ∷ 16 ∷ 16 ∷ 16 ∷ 16 ∷ 16 ∷ 16 ∷ 16 ∷ 16 ∷ 16 ∷ 16 ∷ 16 ∷ 16 ∷ 16 ∷ 16 ∷ 16 ∷ 16 ∷ 16 ∷ 16 ∷ 16 ∷ 16 ∷ 16 ∷ 16 ∷ 16 ∷ 16 ∷ 16 ∷ 16 ∷ 16 ∷ 16 ∷ 16 ∷ 16 ∷ 16 ∷ 16 ∷ 16 ∷ 16 ∷ 16 ∷ 16 ∷ 16 ∷ 16 ∷ 16 ∷ 16 ∷ 16 ∷ 16 ∷ 16 ∷ 16 ∷ 16 ∷ 16 ∷ 16 ∷ 16 ∷ 16 ∷ 16 ∷ 16 ∷ 16 ∷ 16 ∷ 16 ∷ 16 ∷ 16 ∷ 16 ∷ 16 ∷ 16 ∷ 16 ∷ 16 ∷ 16 ∷ 16 ∷ 16 ∷ 16 ∷ 16 ∷ 16 ∷ 16 ∷ 16 ∷ 16 ∷ 16 ∷ 16 ∷ 16 ∷ 16 ∷ 16 ∷ 16 ∷ 16 ∷ 16 ∷ 16 ∷ 16 ∷ 16 ∷ 16 ∷ 16 ∷ 16 ∷ 16 ∷ 16 ∷ 16 ∷ 16 ∷ 16 ∷ 16 ∷ 16 ∷ 16 ∷ 16 ∷ 16 ∷ 16 ∷ 16 ∷ 16 ∷ 16 ∷ 16 ∷ 16 ∷ 16 ∷ 16 ∷ 16 ∷ 16 ∷ 16 ∷ 16 ∷ 16 ∷ 16 ∷ 16 ∷ 16 ∷ 16 ∷ 16 ∷ 16 ∷ 16 ∷ 16 ∷ 16 ∷ 16 ∷ 16 ∷ 16 ∷ 16 ∷ 16 ∷ 16 ∷ 16 ∷ 16 ∷ 16 ∷ 16 ∷ 16 ∷ 16 ∷ 16 ∷ 16 ∷ 16 ∷ 16 ∷ 16 ∷ []

abbrev digits : List ℕ
digits = 48 ∷ 49 ∷ 50 ∷ 51 ∷ 52 ∷ 53 ∷ 54 ∷ 55 ∷ 56 ∷ 57 ∷ 65 ∷ 66 ∷ 67 ∷ 68 ∷ 69 ∷ 70 ∷ []

-- whether these are what f gives, from a first number on
abbrev agree : (ℕ → ℕ) → ℕ → List ℕ → Bool
agree f first [] = true
agree f first (v ∷ vs) = eqb v (f first) && agree f (first + 1) vs

agree_at : (f : ℕ → ℕ) (first : ℕ) (vs : List ℕ) → agree f first vs ≡ true → (k n : ℕ) → k < length vs → first + k ≡ n → get_or vs k 0 ≡ f n
agree_at f first [] h k n l e = absurd (omega arith)
agree_at f first (v ∷ vs) h zero n l e =
    let same : first ≡ n = omega arith in
    eqb-true v (f first) (and_parts (eqb v (f first)) (agree f (first + 1) vs) h).0 ∙ ap f same
agree_at f first (v ∷ vs) h (suc k) n l e =
    agree_at f (first + 1) vs (and_parts (eqb v (f first)) (agree f (first + 1) vs) h).1 k n (omega arith) (omega arith)

pub value_at : (code : ℕ) → code < 256 → get_or values code 0 ≡ value_of code
value_at code l = agree_at value_of 0 values refl code code l (omega arith)

pub digit_at : (v : ℕ) → v < 16 → get_or digits v 0 ≡ digit_of v
digit_at v l = agree_at digit_of 0 digits refl v v l (omega arith)

-- a number with the bits of two is below 16 where both are
or_small : (a b : ℕ) → ltb (bit_or a b) 16 ≡ (ltb a 16 && ltb b 16)
or_small a b =
    ⊎_elim
    (λ (p : a < 16). ⊎_elim
    (λ (q : b < 16). lt-ltb (bit_or a b) 16 (or_lt 4 a b p q) ∙ sym (and_from _ _ (lt-ltb a 16 p) (lt-ltb b 16 q)))
    (λ (q : 16 ≤ b). le-ltb (bit_or a b) 16 (omega (arith, le_or_r a b)) ∙ sym (ap (λ t. ltb a 16 && t) (le-ltb b 16 q) ∙ ap (λ t. t && false) (lt-ltb a 16 p)))
    (cases_lt b 16))
    (λ (p : 16 ≤ a). le-ltb (bit_or a b) 16 (omega (arith, le_or_l a b)) ∙ sym (ap (λ t. t && ltb b 16) (le-ltb a 16 p)))
    (cases_lt a 16)

and_assoc : (a b c : Bool) → ((a && b) && c) ≡ (a && (b && c))
and_assoc true b c = refl
and_assoc false b c = refl

-- the test of a text, one code on
pub bits_next : (text : List ℕ) (i bits : ℕ) → i < length text → (ltb bits 16 && are_digits (drop i text)) ≡ are_digits text
    → (ltb (bit_or bits (value_of (get_or text i 0))) 16 && are_digits (drop (i + 1) text)) ≡ are_digits text
bits_next text i bits l is =
    ap (λ t. t && are_digits (drop (i + 1) text)) (or_small bits (value_of (get_or text i 0)))
    ∙ and_assoc (ltb bits 16) (ltb (value_of (get_or text i 0)) 16) (are_digits (drop (i + 1) text))
    ∙ ap (λ t. ltb bits 16 && t) (sym (digits_next text i l))
    ∙ is
