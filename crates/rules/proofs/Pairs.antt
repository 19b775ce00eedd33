-- One pair's match, in two runs that differ by little: the run in zloty units, scaled by 10^10, and the exact run. Assumes nothing.
use Rattle.std.proofs.Common.{◌≡◌, ℕ, ◌+◌, ◌-◌, ◌*◌, ◌≤◌, ℤ, pos, negsuc, arith}
use borrow.Author.Differences.{up, down}
use Rattle.rules.specs.Margin.{matched, towards}
use Rattle.rules.proofs.Parts.{towards_parts}

-- 10^10 · a and x, as the two sides of a comparison of naturals
abbrev pub ahead : ℤ → ℤ → ℕ
ahead a x = 10000000000 * up a + down x

abbrev pub behind : ℤ → ℤ → ℕ
behind a x = 10000000000 * down a + up x

-- |10^10 · a − x| is at most e
abbrev pub Near : ℕ → ℤ → ℤ → Type 0
Near e a x = (ahead a x ≤ behind a x + e) × (behind a x ≤ ahead a x + e)

-- |10^10 · a − x| + |10^10 · b − y| is at most e
pub record Near₂ (e : ℕ) (a x b y : ℤ) : Type 0 where
  pub hh : ahead a x + ahead b y ≤ behind a x + behind b y + e
  pub hl : ahead a x + behind b y ≤ behind a x + ahead b y + e
  pub lh : behind a x + ahead b y ≤ ahead a x + behind b y + e
  pub ll : behind a x + behind b y ≤ ahead a x + ahead b y + e

-- the two matches differ by no more than that
pub match_near : (a b x y : ℤ) (e : ℕ) → Near₂ e a x b y → (10000000000 * matched a b ≤ matched x y + e) × (matched x y ≤ 10000000000 * matched a b + e)
match_near (pos a) (pos b) (pos x) (pos y) e h = omega arith
match_near (pos a) (pos b) (pos x) (negsuc y) e h = omega arith
match_near (pos a) (pos b) (negsuc x) (pos y) e h = omega arith
match_near (pos a) (pos b) (negsuc x) (negsuc y) e h = omega arith
match_near (pos a) (negsuc b) (pos x) (pos y) e h = omega arith
match_near (pos a) (negsuc b) (pos x) (negsuc y) e h = omega arith
match_near (pos a) (negsuc b) (negsuc x) (pos y) e h = omega arith
match_near (pos a) (negsuc b) (negsuc x) (negsuc y) e h = omega arith
match_near (negsuc a) (pos b) (pos x) (pos y) e h = omega arith
match_near (negsuc a) (pos b) (pos x) (negsuc y) e h = omega arith
match_near (negsuc a) (pos b) (negsuc x) (pos y) e h = omega arith
match_near (negsuc a) (pos b) (negsuc x) (negsuc y) e h = omega arith
match_near (negsuc a) (negsuc b) (pos x) (pos y) e h = omega arith
match_near (negsuc a) (negsuc b) (pos x) (negsuc y) e h = omega arith
match_near (negsuc a) (negsuc b) (negsuc x) (pos y) e h = omega arith
match_near (negsuc a) (negsuc b) (negsuc x) (negsuc y) e h = omega arith

-- a step of m units towards zero, by the two parts
abbrev pub Moves : ℤ → ℕ → ℤ → Type 0
Moves z m w = (up w ≡ up z - m) × (down w ≡ down z - m)

-- nor do the leftovers differ by more after the step: it is non-expansive
step_near' : (a b x y : ℤ) (a' b' x' y' : ℤ) (e : ℕ) → Near₂ e a x b y → Moves a (matched a b) a' → Moves b (matched a b) b' → Moves x (matched x y) x' → Moves y (matched x y) y' → Near₂ e a' x' b' y'
step_near' (pos a) (pos b) (pos x) (pos y) a' b' x' y' e h p q r s = omega arith
step_near' (pos a) (pos b) (pos x) (negsuc y) a' b' x' y' e h p q r s = omega arith
step_near' (pos a) (pos b) (negsuc x) (pos y) a' b' x' y' e h p q r s = omega arith
step_near' (pos a) (pos b) (negsuc x) (negsuc y) a' b' x' y' e h p q r s = omega arith
step_near' (pos a) (negsuc b) (pos x) (pos y) a' b' x' y' e h p q r s = omega arith
step_near' (pos a) (negsuc b) (pos x) (negsuc y) a' b' x' y' e h p q r s = omega arith
step_near' (pos a) (negsuc b) (negsuc x) (pos y) a' b' x' y' e h p q r s = omega arith
step_near' (pos a) (negsuc b) (negsuc x) (negsuc y) a' b' x' y' e h p q r s = omega arith
step_near' (negsuc a) (pos b) (pos x) (pos y) a' b' x' y' e h p q r s = omega arith
step_near' (negsuc a) (pos b) (pos x) (negsuc y) a' b' x' y' e h p q r s = omega arith
step_near' (negsuc a) (pos b) (negsuc x) (pos y) a' b' x' y' e h p q r s = omega arith
step_near' (negsuc a) (pos b) (negsuc x) (negsuc y) a' b' x' y' e h p q r s = omega arith
step_near' (negsuc a) (negsuc b) (pos x) (pos y) a' b' x' y' e h p q r s = omega arith
step_near' (negsuc a) (negsuc b) (pos x) (negsuc y) a' b' x' y' e h p q r s = omega arith
step_near' (negsuc a) (negsuc b) (negsuc x) (pos y) a' b' x' y' e h p q r s = omega arith
step_near' (negsuc a) (negsuc b) (negsuc x) (negsuc y) a' b' x' y' e h p q r s = omega arith

pub step_near : (a b x y : ℤ) (e : ℕ) → Near₂ e a x b y → Near₂ e (towards a (matched a b)) (towards x (matched x y)) (towards b (matched a b)) (towards y (matched x y))
step_near a b x y e h =
    step_near' a b x y (towards a (matched a b)) (towards b (matched a b)) (towards x (matched x y)) (towards y (matched x y)) e h
    (towards_parts a (matched a b)) (towards_parts b (matched a b)) (towards_parts x (matched x y)) (towards_parts y (matched x y))
