-- No class is credited more than its own risk, and a surcharge lowers nothing. Assumes nothing.
use Rattle.std.proofs.Common.{◌≡◌, ℕ, ◌+◌, ◌*◌, ◌/◌, ◌≤◌, true, List, [], ◌∷◌, ℤ, nat_abs, ap, mul-le-mul_right, arith}
use borrow.Author.Differences.{ints}
use Rattle.std.proofs.lemmas.Bool.{cond-true, cond-false}
use Rattle.rules.specs.declared.rows.PairRow.{PairRow}
use Rattle.rules.specs.Rows.{Every}
use Rattle.rules.specs.Margin.{rounded, match_of, step, of_pair, credits}
use Rattle.rules.proofs.Parts.{towards_parts, nat_abs_is}
use Rattle.rules.proofs.Walk.{Apart, At, at, in_pair, no_pair}

-- a pair's ceiling: crt is at most the rate y c of each of its classes c
pub record Capped (y : ℕ → ℕ) (p : PairRow) : Type 0 where
  pub apart : Apart p
  pub cap : (c : ℕ) → of_pair p c ≡ true → p.crt ≤ y c

pub every_apart : (y : ℕ → ℕ) (ps : List PairRow) → Every (Capped y) ps → Every Apart ps
every_apart y [] d = tt
every_apart y (p ∷ ps) d = (d.0.apart, every_apart y ps d.1)

one_credit : (crt m y z w : ℕ) → crt ≤ y → w + m ≡ z → 10000000 * (crt * m / 10000000) + y * w ≤ y * z
one_credit crt m y z w l e = omega (arith, mul-le-mul_right m l, ap (λ n. y * n) e)

-- 10^7 times the credits of a class is at most y times its net value
pub credits_capped : (y : ℕ → ℕ) (f : ℕ → ℤ) (ps : List PairRow) → Every (Capped y) ps → (c : ℕ) → 10000000 * credits rounded f ps c ≤ y c * nat_abs (f c)
credits_capped y f [] d c = omega arith
credits_capped y f (p ∷ ps) d c = go (at f p d.0.apart c) (credits_capped y (step f p) ps d.1 c)
  where
    go : At f p c → 10000000 * credits rounded (step f p) ps c ≤ y c * nat_abs (step f p c) → 10000000 * credits rounded f (p ∷ ps) c ≤ y c * nat_abs (f c)
    go (in_pair t e l) ih =
        let same : nat_abs (step f p c) + match_of f p ≡ nat_abs (f c) =
        omega (arith, ints, nat_abs_is (f c), nat_abs_is (step f p c), e, towards_parts (f c) (match_of f p)) in
        let one : 10000000 * (p.crt * match_of f p / 10000000) + y c * nat_abs (step f p c) ≤ y c * nat_abs (f c) =
        one_credit p.crt (match_of f p) (y c) (nat_abs (f c)) (nat_abs (step f p c)) (d.0.cap c t) same in
        omega (arith, ih, one, cond-true (of_pair p c) (p.crt * match_of f p / 10000000) 0 t)
    go (no_pair t e) ih = omega (arith, ih, ap (λ z. y c * nat_abs z) e, cond-false (of_pair p c) (p.crt * match_of f p / 10000000) 0 t)
