-- A number that is filled up with zeros in front is its last digits. Assumes nothing.
use Rattle.std.proofs.Common.{◌≡◌, ℕ, zero, suc, ◌+◌, ◌-◌, ◌*◌, ◌/◌, ◌%◌, ◌^◌, ◌<◌, ◌≤◌, List, [], ◌∷◌, ◌++◌, length, decimal, sym, ap, ◌∙◌, append_assoc, append-nil, ⊎_elim, true, false, cond, eqb, ◌&&◌, arith, length-append, pow-suc}
use Rattle.std.proofs.Math.ListN.{replicate}
use Rattle.std.proofs.Math.Arith.{mod-mul}
use Rattle.std.proofs.Math.Nat.{pow-zero, one-le-pow, pow-le-pow_right, mod-lt}
use Rattle.std.proofs.lemmas.Fmt.{decimal_digit, decimal_step}
use Rattle.std.proofs.lemmas.List.{replicate_more}
use Rattle.std.specs.Fmt.{padded_integral, char_count, format_spec, styled_decimal}
use Rattle.std.proofs.lemmas.Bool.{cases_lt, ne_eqb}
use Rattle.wording.specs.Decimals.{places, decimals}

-- a number with zeros in front, up to k digits
abbrev pub filled : ℕ → ℕ → List ℕ
filled k n = replicate (k - length (decimal n)) 48 ++ decimal n

-- a digit behind the others
push : (k x : ℕ) (ds : List ℕ) → replicate (suc k - length (ds ++ x ∷ [])) 48 ++ (ds ++ x ∷ []) ≡ (replicate (k - length ds) 48 ++ ds) ++ x ∷ []
push k x ds = ap (λ j. replicate j 48 ++ (ds ++ x ∷ [])) (omega (arith, length-append ds (x ∷ []))) ∙ sym (append_assoc (replicate (k - length ds) 48) ds (x ∷ []))

-- one place more
filled_more : (k n : ℕ) → 0 < k → n < 2 ^ 64 → filled (suc k) n ≡ filled k (n / 10) ++ decimal (n % 10)
filled_more k n some small = ⊎_elim
    (λ one.
    let none : n / 10 ≡ 0 = omega arith in
    let last : n % 10 ≡ n = omega arith in
    let zeros : replicate (suc k - 1) 48 ≡ replicate (k - 1) 48 ++ 48 ∷ [] = ap (λ j. replicate j 48) (omega arith) ∙ sym (replicate_more (k - 1) 48) in
    ap (λ ds. replicate (suc k - length ds) 48 ++ ds) (decimal_digit n one)
    ∙ ap (λ ds. ds ++ (48 + n) ∷ []) zeros
    ∙ ap (λ ds. (replicate (k - length ds) 48 ++ ds) ++ (48 + n) ∷ []) (sym (decimal_digit 0 (omega arith)))
    ∙ ap (λ m. filled k m ++ (48 + n) ∷ []) (sym none)
    ∙ ap (λ ds. filled k (n / 10) ++ ds) (sym (decimal_digit n one) ∙ ap decimal (sym last)))
    (λ more.
    ap (λ ds. replicate (suc k - length ds) 48 ++ ds) (decimal_step n more small)
    ∙ push k (48 + n % 10) (decimal (n / 10))
    ∙ ap (λ ds. filled k (n / 10) ++ ds) (sym (decimal_digit (n % 10) (omega arith))))
    (cases_lt n 10)

-- the last k digits of a number
pub last_places : (k n : ℕ) (t : List ℕ) → k < 19 → filled (suc k) (n % 10 ^ suc k) ++ t ≡ places (suc k) n t
last_places zero n t few =
    let power : 10 ^ 1 ≡ 10 = omega (arith, pow-suc 10 0, pow-zero 10) in
    let digit = decimal_digit (n % 10) (omega arith) in
    ap (λ p. filled 1 (n % p) ++ t) power
    ∙ ap (λ ds. (replicate (1 - length ds) 48 ++ ds) ++ t) digit
    ∙ ap (λ ds. ds ++ t) (sym digit)
last_places (suc k) n t few =
    let p : ℕ = 10 ^ suc k in
    let m : ℕ = n % 10 ^ suc (suc k) in
    let power : 10 ^ suc (suc k) ≡ p * 10 = pow-suc 10 (suc k) in
    let some : 0 < p = one-le-pow (suc k) 10 (omega arith) in
    let digits : m ≡ (n / 10 % p) * 10 + n % 10 = ap (λ q. n % q) power ∙ mod-mul n some (omega arith) in
    let high : m / 10 ≡ n / 10 % p = omega (arith, digits) in
    let low : m % 10 ≡ n % 10 = omega (arith, digits) in
    let below : n / 10 % p < p = mod-lt (n / 10) some in
    let few' : suc k ≤ 18 = omega arith in
    let least : p ≤ 10 ^ 18 = pow-le-pow_right {n = 10} (omega arith) few' in
    let small : m < 2 ^ 64 = omega (arith, digits, below, least) in
    ap (λ ds. ds ++ t) (filled_more (suc k) m (omega arith) small)
    ∙ ap (λ h. (filled (suc k) h ++ decimal (m % 10)) ++ t) high
    ∙ ap (λ l. (filled (suc k) (n / 10 % p) ++ decimal l) ++ t) low
    ∙ append_assoc (filled (suc k) (n / 10 % p)) (decimal (n % 10)) t
    ∙ last_places k (n / 10) (decimal (n % 10) ++ t) (omega arith)

-- what is written of it under a width
styled : (k n : ℕ) → 0 < k → styled_decimal (format_spec 32 0 4 k (2 ^ 64 - 1)) n ≡ filled k n
unfolding padded_integral char_count
styled k n some =
    let wide : eqb k 0 ≡ false = ne_eqb k 0 (λ e. omega (arith, e)) in
    let short : k - length (decimal n) - 0 - 0 ≡ k - length (decimal n) = omega arith in
    ap (λ b. cond (b && true && true) (decimal n) (padded_integral (format_spec 32 0 4 k (2 ^ 64 - 1)) false [] (decimal n))) wide
    ∙ ap (λ j. replicate j 48 ++ (decimal n ++ [])) short
    ∙ ap (λ ds. replicate (k - length (decimal n)) 48 ++ ds) (append-nil (decimal n))

-- a number before and behind its point
pub spelled : (k n p : ℕ) → 0 < k → k ≤ 19 → p ≡ 10 ^ k → decimal (n / p) ++ (46 ∷ styled_decimal (format_spec 32 0 4 k (2 ^ 64 - 1)) (n % p)) ≡ decimals k n []
spelled zero n p some few is = absurd (omega arith)
spelled (suc k) n p some few is =
    ap (λ q. decimal (n / q) ++ (46 ∷ styled_decimal (format_spec 32 0 4 (suc k) (2 ^ 64 - 1)) (n % q))) is
    ∙ ap (λ ds. decimal (n / 10 ^ suc k) ++ (46 ∷ ds))
    (styled (suc k) (n % 10 ^ suc k) some ∙ sym (append-nil (filled (suc k) (n % 10 ^ suc k))) ∙ last_places k n [] (omega arith))

-- no power of ten is 0
pub some_power : (k p : ℕ) → p ≡ 10 ^ k → 0 < p
some_power k p is = omega (arith, is, one-le-pow k 10 (omega arith))
