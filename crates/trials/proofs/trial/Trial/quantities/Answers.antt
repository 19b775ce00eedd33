use Rattle.std.proofs.Common.{◌≡◌, ℕ, ◌+◌, ◌<◌, ◌≤◌, length, get_or, set, ℤ, pos, ◌-ℤ◌, sym, ap, ◌∙◌, subst, ap₂, ⊎_elim, arith, length-set, w64, SFits, to_z, of_z}
use mathlib.Core.List as L
use Rattle.std.proofs.lemmas.Int.{ints, to_z-of_z}
use Rattle.std.proofs.lemmas.Bool.{cases_lt}
use Rattle.std.proofs.lemmas.List.{get_or-set_same, get_or-set_other}
use Rattle.terms.specs.Limits.{security_count, net_limit}
use Rattle.books.specs.Books.{Within, nets_of}
use Rattle.trials.specs.Trials.{laid, trial_nets}
use Rattle.trials.proofs.trial.Trial.quantities.Goals as goal

within_fits : (z : ℤ) → Within net_limit z → SFits w64 z
within_fits z h = omega (arith, ints)

apart_fits : (a b : ℤ) → Within net_limit a → Within net_limit b → SFits w64 (a -ℤ b)
apart_fits a b h k = omega (arith, ints)

-- a difference of two nets, as bits
bits : (a b n m : ℤ) → Within net_limit n → Within net_limit m → a ≡ n → b ≡ m → to_z w64 (of_z w64 (to_z w64 (of_z w64 a) -ℤ to_z w64 (of_z w64 b))) ≡ n -ℤ m
bits a b n m h k e f =
    ap₂ (λ (x y : ℤ). to_z w64 (of_z w64 (to_z w64 (of_z w64 x) -ℤ to_z w64 (of_z w64 y)))) e f
    ∙ ap₂ (λ (x y : ℤ). to_z w64 (of_z w64 (x -ℤ y))) (to_z-of_z w64 n (within_fits n h)) (to_z-of_z w64 m (within_fits m k))
    ∙ to_z-of_z w64 (n -ℤ m) (apart_fits n m h k)

-- one place written
module _ (xs : L.List ℤ) (i : ℕ) (x : ℤ) (f below : ℕ → ℤ) (long : length xs ≡ security_count) (within : i < security_count) (is : x ≡ f i) where
  found_more : ((s : ℕ) → s < i → get_or xs s (pos 0) ≡ f s) → (s : ℕ) → s < i + 1 → get_or (set xs i x) s (pos 0) ≡ f s
  found_more h s l =
      ⊎_elim
      (λ (b : s < i). get_or-set_other xs i s x (pos 0) (λ (e : s ≡ i). omega arith) ∙ h s b)
      (λ (b : i ≤ s). let e : s ≡ i = omega arith in
      subst (λ (k : ℕ). get_or (set xs i x) k (pos 0) ≡ f k) (sym e) (get_or-set_same xs i x (pos 0) (omega (arith, long)) ∙ is))
      (cases_lt s i)

  left_more : ((s : ℕ) → i ≤ s → s < security_count → get_or xs s (pos 0) ≡ below s) → (s : ℕ) → i + 1 ≤ s → s < security_count → get_or (set xs i x) s (pos 0) ≡ below s
  left_more h s l b = get_or-set_other xs i s x (pos 0) (λ (e : s ≡ i). omega arith) ∙ h s (omega arith) b

pub loop-security-preserved : goal.loop-security-preserved
loop-security-preserved g c =
    let i = c.loop-security.security in
    let xs = c.loop-security.quantities in
    let inv = c.loop-security.invariant in
    let t = c.args.self.now in
    let below : ℕ → ℤ = g.B.Positions.nets t.below in
    let f : ℕ → ℤ = λ s. (laid g.B.Book.meaning t s).net in
    let here : i < security_count = c.loop-security-test.true in
    let held : ℕ → ℤ = nets_of (g.B.Book.meaning.account t.below) in
    let same : below i ≡ held i = ap (λ n. n i) (g.met.B.Book.netted t.below) in
    let is = bits c.net_at.result (get_or xs i (pos 0)) (trial_nets t i) (held i) (t.above.limited i) (subst (Within net_limit) same (g.B.Positions.limited t.below i)) c.net_at.ensures (inv.left i (omega arith) here ∙ same) in
    record {
      long = length-set xs i _ ∙ inv.long;
      found = found_more xs i _ f below inv.long here is inv.found;
      left = left_more xs i _ f below inv.long here is inv.left;
    }
