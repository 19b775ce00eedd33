-- Two runs of the walk, in zloty units and exactly: their credits differ by little, since no step raises the sum of the differences. Assumes nothing.
use Rattle.std.proofs.Common.{◌≡◌, ℕ, ◌+◌, ◌-◌, ◌*◌, ◌/◌, ◌^◌, ◌<◌, ◌≤◌, Bool, true, false, cond, ◌&&◌, List, [], ◌∷◌, ℤ, refl, ⊎_elim, le_trans, mul-le-mul_right, mul-le-mul_left, arith}
use borrow.Author.Differences.{up, down}
use Rattle.std.proofs.lemmas.Bool.{and_cases, cases_Bool}
use Rattle.terms.specs.Sums.{sum_below}
use Rattle.rules.specs.declared.rows.PairRow.{PairRow}
use Rattle.rules.specs.Rows.{Every}
use Rattle.rules.specs.Margin.{Rounding, rounded, exact, match_of, step, of_pair, credits}
use Rattle.rules.specs.Held.{count_pairs}
use Rattle.rules.proofs.Parts.{matched_is}
use Rattle.rules.proofs.Pairs.{ahead, behind, Near₂, match_near, step_near}
use Rattle.rules.proofs.Sums.{sum_add, sum_but_two, sum_at_two, sum_two, sum_zero}
use Rattle.rules.proofs.Values.{Within}
use Rattle.rules.proofs.Walk.{Apart, step_first, step_second, step_else, step_shrinks}
use Rattle.terms.specs.Limits.{class_count, whole}

-- |10^10 · a − x|
abbrev pub gap : ℤ → ℤ → ℕ
gap a x = (ahead a x - behind a x) + (behind a x - ahead a x)

near_gaps : (a x b y : ℤ) → Near₂ (gap a x + gap b y) a x b y
near_gaps a x b y = omega arith

gaps_near : (a x b y : ℤ) (e : ℕ) → Near₂ e a x b y → gap a x + gap b y ≤ e
gaps_near a x b y e h = omega arith

-- the sum of the differences over the classes
abbrev pub distance : (ℕ → ℤ) → (ℕ → ℤ) → ℕ
distance f g = sum_below class_count (λ c. gap (f c) (g c))

pub record PairLawful (p : PairRow) : Type 0 where
  pub apart : Apart p
  pub one : p.first < class_count
  pub other : p.second < class_count
  pub small : p.crt ≤ whole

pub step_distance : (f g : ℕ → ℤ) (p : PairRow) → PairLawful p → distance (step f p) (step g p) ≤ distance f g
step_distance f g p l =
    let i : ℕ = p.first in
    let j : ℕ = p.second in
    let new : Near₂ (gap (f i) (g i) + gap (f j) (g j)) (step f p i) (step g p i) (step f p j) (step g p j) =
    rw (step_first f p l.apart, step_first g p l.apart, step_second f p, step_second g p)
    (step_near (f i) (f j) (g i) (g j) (gap (f i) (g i) + gap (f j) (g j)) (near_gaps (f i) (g i) (f j) (g j))) in
    raise _ _ _ _ (gaps_near (step f p i) (step g p i) (step f p j) (step g p j) _ new)
    (sum_but_two class_count i j (λ c. gap (step f p c) (step g p c)) (λ c. gap (f c) (g c)) l.one l.other l.apart
    (λ c d e. rw (step_else f p c d e, step_else g p c d e) refl))
  where
    raise : (s t a b : ℕ) → a ≤ b → s + b ≡ t + a → s ≤ t
    raise s t a b h e = omega arith

pub match_distance : (f g : ℕ → ℤ) (p : PairRow) → PairLawful p → Within (distance f g) (10000000000 * match_of f p) (match_of g p)
match_distance f g p l =
    widen _ _ _ _ (sum_two class_count p.first p.second (λ c. gap (f c) (g c)) l.one l.other l.apart)
    (match_near (f p.first) (f p.second) (g p.first) (g p.second) _ (near_gaps (f p.first) (g p.first) (f p.second) (g p.second)))
  where
    widen : (d e a b : ℕ) → d ≤ e → Within d a b → Within e a b
    widen d e a b l w = omega arith

-- ---- one credit

credit_near : (crt m n e : ℕ) → crt ≤ whole → Within e (10000000000 * m) n → Within (10 ^ 17 + 100000 * e) (10 ^ 17 * (crt * m / 10000000)) (crt * n)
credit_near crt m n e l h = omega (arith, mul-le-mul_left crt h.0, mul-le-mul_left crt h.1, mul-le-mul_right e l)

-- ---- the credits of all classes

abbrev pub all_credits : Rounding → (ℕ → ℤ) → List PairRow → ℕ
all_credits k f ps = sum_below class_count (credits k f ps)

all_credits_more : (k : Rounding) (f : ℕ → ℤ) (p : PairRow) (ps : List PairRow) → PairLawful p →
    all_credits k f (p ∷ ps) ≡ 2 * k.credit p.crt (match_of f p) + all_credits k (step f p) ps
all_credits_more k f p ps l =
    omega (
      arith,
      sum_add class_count (λ c. cond (of_pair p c) (k.credit p.crt (match_of f p)) 0) (credits k (step f p) ps),
      sum_at_two class_count p.first p.second (k.credit p.crt (match_of f p)) l.one l.other l.apart,
    )

-- f is 0 at the classes that fail the test
abbrev pub ZeroOff : (ℕ → Bool) → (ℕ → ℤ) → Type 0
ZeroOff t f = (c : ℕ) → t c ≡ false → (up (f c) ≡ 0) × (down (f c) ≡ 0)

step_off : (t : ℕ → Bool) (f : ℕ → ℤ) (p : PairRow) → Apart p → ZeroOff t f → ZeroOff t (step f p)
step_off t f p d z c e = omega (arith, z c e, step_shrinks f p d c)

no_match : (t : ℕ → Bool) (f : ℕ → ℤ) (p : PairRow) → ZeroOff t f → (t p.first && t p.second) ≡ false → match_of f p ≡ 0
no_match t f p z e =
    ⊎_elim
    (λ (q : t p.first ≡ false). omega (arith, z p.first q, matched_is (f p.first) (f p.second)))
    (λ (q : t p.second ≡ false). omega (arith, z p.second q, matched_is (f p.first) (f p.second)))
    (and_cases (t p.first) (t p.second) e)

abbrev pub both_pass : (ℕ → Bool) → PairRow → Bool
both_pass t p = t p.first && t p.second

-- one pair's two credits
pair_near : (t : ℕ → Bool) (f g : ℕ → ℤ) (p : PairRow) (e : ℕ) → PairLawful p → ZeroOff t f → ZeroOff t g → distance f g ≤ e →
    Within (cond (both_pass t p) 1 0 * (10 ^ 17 + 100000 * e)) (10 ^ 17 * rounded.credit p.crt (match_of f p)) (exact.credit p.crt (match_of g p))
pair_near t f g p e l zf zg d =
    ⊎_elim
    (λ (q : both_pass t p ≡ true). rw q
    (let m : Within (distance f g) (10000000000 * match_of f p) (match_of g p) = match_distance f g p l in
    let n : Within e (10000000000 * match_of f p) (match_of g p) = widen _ _ _ _ d m in
    ones _ _ _ (credit_near p.crt (match_of f p) (match_of g p) e l.small n)))
    (λ (q : both_pass t p ≡ false). rw (q, no_match t f p zf q, no_match t g p zg q) (omega arith))
    (cases_Bool (both_pass t p))
  where
    widen : (d e a b : ℕ) → d ≤ e → Within d a b → Within e a b
    widen d e a b l w = omega arith

    ones : (e a b : ℕ) → Within e a b → Within (1 * e) a b
    ones e a b w = omega arith

two_and_rest : (n r P p S s e : ℕ) → Within (n * e) (10 ^ 17 * P) p → Within (r * (2 * e)) (10 ^ 17 * S) s → Within ((n + r) * (2 * e)) (10 ^ 17 * (2 * P + S)) (2 * p + s)
two_and_rest n r P p S s e h k = omega arith

pub credits_near : (t : ℕ → Bool) (f g : ℕ → ℤ) (ps : List PairRow) (e : ℕ) → Every PairLawful ps → ZeroOff t f → ZeroOff t g → distance f g ≤ e →
    Within (count_pairs (both_pass t) ps * (2 * (10 ^ 17 + 100000 * e))) (10 ^ 17 * all_credits rounded f ps) (all_credits exact g ps)
credits_near t f g [] e l zf zg d = omega (arith, sum_zero class_count)
credits_near t f g (p ∷ ps) e l zf zg d =
    rw (all_credits_more rounded f p ps l.0, all_credits_more exact g p ps l.0)
    (two_and_rest (cond (both_pass t p) 1 0) (count_pairs (both_pass t) ps) _ _ _ _ (10 ^ 17 + 100000 * e)
    (pair_near t f g p e l.0 zf zg d)
    (credits_near t (step f p) (step g p) ps e l.1 (step_off t f p l.0.apart zf) (step_off t g p l.0.apart zg) (le_trans (step_distance f g p l.0) d)))
