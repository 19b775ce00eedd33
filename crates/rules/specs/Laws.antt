-- The theorems about the margin. Assumes nothing.
use Rattle.std.specs.Prelude.{◌≡◌, ℕ, ◌+◌, ◌*◌, ◌/◌, ◌^◌, ◌≤◌, true, cond, ◌⊎◌, List, [], ◌∷◌, ℤ, pos, negsuc, ◌+ℤ◌, ◌-ℤ◌, ◌*ℤ◌, neg_ℤ, ◌≤ℤ◌, ◌<ℤ◌, unsigned_abs}
use Rattle.rules.specs.declared.rows.PairRow.{PairRow}
use Rattle.rules.specs.Rows.{Rows, Lawful, Every, raised}
use Rattle.rules.specs.Tables.{Table, rows_of, table_test}
use Rattle.rules.specs.Margin.{TwoSums, rounded, exact, worth, amount_of, AmountsSmall, bought, sold, of_pair, matches, leftovers, DRR, DRS, DSWK, DOLR, DOLR_from, DSPAN}
use Rattle.rules.specs.Held.{securities_held, classes_held, pairs_held}
use Rattle.terms.specs.Limits.{security_count, class_count, amount_limit, duration_limit, duration_one}
use Rattle.terms.specs.Money.{grosz_units}

-- a match m as a part of a class's net value: with that value's sign
abbrev pub part_of : ℤ → ℕ → ℤ
part_of (pos v) m = pos m
part_of (negsuc v) m = neg_ℤ (pos m)

-- the sum of the parts of a class of net value v, over the pairs that hold it
abbrev pub parts_of : ℤ → ℕ → List PairRow → List ℕ → ℤ
parts_of v c [] ms = pos 0
parts_of v c (p ∷ ps) [] = pos 0
parts_of v c (p ∷ ps) (m ∷ ms) = cond (of_pair p c) (part_of v m) (pos 0) +ℤ parts_of v c ps ms

-- R holds of the rows and the numbers at the same places, and the lists are as long
abbrev pub Both : {A B : Type 0} → (A → B → Type 0) → List A → List B → Type 0
Both R [] [] = Unit {0}
Both R [] (b ∷ bs) = ⊥
Both R (a ∷ rest) [] = ⊥
Both R (a ∷ rest) (b ∷ bs) = R a b × Both R rest bs

-- one is below 0 and the other above
abbrev pub Opposite : ℤ → ℤ → Type 0
Opposite a b = ((a <ℤ pos 0) × (pos 0 <ℤ b)) ⊎ ((pos 0 <ℤ a) × (b <ℤ pos 0))

-- What a walk over the pairs does with the net values v: of each class the matched parts and the leftover make up the net value;
-- the two parts of a pair are equal and opposite; and no pair is left with leftovers of opposite sign.
pub record Matched (v : ℕ → ℤ) (ps : List PairRow) (ms : List ℕ) (left : ℕ → ℤ) : Type 0 where
  pub whole : (c : ℕ) → parts_of (v c) c ps ms +ℤ left c ≡ v c
  pub opposed : Both (λ p m. part_of (v p.first) m +ℤ part_of (v p.second) m ≡ pos 0) ps ms
  pub served : Every (λ p. ¬ (Opposite (left p.first) (left p.second))) ps

unfoldable pub Matching : Type 0
Matching =
    (rows : Rows) → Lawful rows → (v : ℕ → ℤ) →
    Matched v rows.pairs (matches v rows.pairs) (leftovers v rows.pairs)

-- no class owes less than nothing, whoever the sums are of
abbrev pub NoNegative : Type 0
NoNegative = (rows : Rows) → Lawful rows → (sums : TwoSums) (c : ℕ) → pos 0 ≤ℤ DOLR_from rounded rows sums c

-- a surcharge lowers no class's deposit: lifting it raises none
abbrev pub Monotone : Type 0
Monotone =
    (rows : Rows) → Lawful rows → (nets : ℕ → ℤ) (a b : ℕ → ℕ) (c : ℕ) →
    DOLR rounded rows nets c ≤ℤ DOLR rounded (raised a b rows) nets c

-- a surcharge keeps the laws of a sheet, so that one can stand on another
abbrev pub SurchargesLawful : Type 0
SurchargesLawful = (rows : Rows) → Lawful rows → (a b : ℕ → ℕ) → Lawful (raised a b rows)

-- ---- the numbers of the machine are large enough, where no amount of a position is above its limit

-- bounds on the value of a position, the sums of a class, what a class owes before its credits, and what a portfolio owes
abbrev pub value_limit : ℕ
value_limit = amount_limit / duration_one * duration_limit

abbrev pub sum_limit : ℕ
sum_limit = security_count * value_limit

-- three parts, each at most the sums in grosz, and one more where it is rounded up
abbrev pub deposit_limit : ℕ
deposit_limit = 3 * (sum_limit / grosz_units + 1)

abbrev pub span_limit : ℕ
span_limit = class_count * deposit_limit

-- the value of a position is at most this
abbrev pub ValuesWithin : ℕ → Type 0
ValuesWithin bound =
    (rows : Rows) → Lawful rows → (s q : ℕ) → amount_of q (rows.securities s) ≤ amount_limit → worth rounded rows q (rows.securities s) ≤ bound

-- the two sums of a class are at most this together
abbrev pub SumsWithin : ℕ → Type 0
SumsWithin bound =
    (rows : Rows) → Lawful rows → (nets : ℕ → ℤ) → AmountsSmall rows nets → (c : ℕ) → bought rounded rows nets c + sold rounded rows nets c ≤ bound

-- what a class owes before its credits is at most this
abbrev pub DepositsWithin : ℕ → Type 0
DepositsWithin bound =
    (rows : Rows) → Lawful rows → (nets : ℕ → ℤ) → AmountsSmall rows nets → (c : ℕ) →
    DRR rounded rows nets c + DRS rounded rows nets c + DSWK rounded rows nets c ≤ bound

-- what a portfolio owes is at most this
abbrev pub SpansWithin : ℕ → Type 0
SpansWithin bound = (rows : Rows) → Lawful rows → (nets : ℕ → ℤ) → AmountsSmall rows nets → DSPAN rounded rows nets ≤ℤ pos bound

-- ---- how near the deposit is to the exact margin

-- with C classes, N securities and R pairs held, in thousandths of a grosz: 1.5 grosz a class, 0.465 a security, and 2 + 0.31 N a pair
abbrev pub accuracy_bound_lem : ℕ → ℕ → ℕ → ℕ
accuracy_bound_lem C N R = 1500 * C + 465 * N + R * (2000 + 310 * N)

-- the deposit is off by no more than that; a grosz is 10^17 units of the exact margin
abbrev pub Accurate : Rows → (ℕ → ℤ) → ℤ → Type 0
Accurate rows nets span =
    1000 * unsigned_abs (span *ℤ pos (10 ^ 17) -ℤ DSPAN exact rows nets)
    ≤ accuracy_bound_lem (classes_held rows nets) (securities_held nets) (pairs_held rows nets) * 10 ^ 17

abbrev pub Accuracy : Type 0
Accuracy = (rows : Rows) → Lawful rows → (nets : ℕ → ℤ) → Accurate rows nets (DSPAN rounded rows nets)

-- ---- the test of a table

-- it passes exactly where the rows obey the laws
abbrev pub TestDecides : Type 0
TestDecides = (t : Table) → (table_test t ≡ true → Lawful (rows_of t)) × (Lawful (rows_of t) → table_test t ≡ true)
