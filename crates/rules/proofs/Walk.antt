-- The walk over the pairs: what a step does at each class, and the laws of the whole walk. Assumes nothing.
use Rattle.std.proofs.Common.{◌≡◌, ℕ, ◌+◌, ◌<◌, ◌≤◌, min, true, false, cond, eqb, ◌≢◌, List, [], ◌∷◌, ℤ, pos, negsuc, ◌+ℤ◌, sym, refl, ap, ◌∙◌, subst, ap₂, inl, inr, ⊎_elim, arith}
use borrow.Author.Differences.{up, down, ints}
use Rattle.std.proofs.lemmas.Bool.{cases_eq, eq-eqb, ne_eqb, cond-true, cond-false, or_left, or_right, or_from}
use Rattle.rules.specs.declared.rows.PairRow.{PairRow}
use Rattle.rules.specs.Rows.{Every}
use Rattle.rules.specs.Margin.{Rounding, matched, towards, match_of, step, of_pair, matches, leftovers, credits}
use Rattle.rules.specs.Laws.{part_of, parts_of, Both, Opposite, Matched}
use Rattle.rules.proofs.Parts.{one_sided, towards_parts, matched_is}

abbrev pub Apart : PairRow → Type 0
Apart p = p.first ≢ p.second

-- ---- one step, at each class

pub step_second : (f : ℕ → ℤ) (p : PairRow) → step f p p.second ≡ towards (f p.second) (match_of f p)
unfolding step
step_second f p = cond-true (eqb p.second p.second) _ _ (eq-eqb p.second p.second refl)

pub step_first : (f : ℕ → ℤ) (p : PairRow) → Apart p → step f p p.first ≡ towards (f p.first) (match_of f p)
unfolding step
step_first f p d =
    cond-false (eqb p.first p.second) _ _ (ne_eqb p.first p.second d)
    ∙ cond-true (eqb p.first p.first) _ _ (eq-eqb p.first p.first refl)

pub step_else : (f : ℕ → ℤ) (p : PairRow) (c : ℕ) → c ≢ p.first → c ≢ p.second → step f p c ≡ f c
unfolding step
step_else f p c d e =
    cond-false (eqb c p.second) _ _ (ne_eqb c p.second e) ∙ cond-false (eqb c p.first) _ _ (ne_eqb c p.first d)

-- a class of the pair, or no class of it
pub data At (f : ℕ → ℤ) (p : PairRow) (c : ℕ) : Type 0 where
  in_pair : of_pair p c ≡ true → step f p c ≡ towards (f c) (match_of f p) → match_of f p ≤ up (f c) + down (f c) → At f p c
  no_pair : of_pair p c ≡ false → step f p c ≡ f c → At f p c

pub at : (f : ℕ → ℤ) (p : PairRow) → Apart p → (c : ℕ) → At f p c
at f p d c =
    ⊎_elim
    (λ (e : c ≡ p.first).
    in_pair (or_left (eqb c p.first) (eqb c p.second) (eq-eqb c p.first e))
    (subst (λ (i : ℕ). step f p i ≡ towards (f i) (match_of f p)) (sym e) (step_first f p d))
    (omega (arith, matched_is (f p.first) (f p.second), ap (λ i. up (f i)) e, ap (λ i. down (f i)) e)))
    (λ (n : c ≡ p.first → ⊥). ⊎_elim
    (λ (e : c ≡ p.second).
    in_pair (or_right (eqb c p.first) (eqb c p.second) (eq-eqb c p.second e))
    (subst (λ (i : ℕ). step f p i ≡ towards (f i) (match_of f p)) (sym e) (step_second f p))
    (omega (arith, matched_is (f p.first) (f p.second), ap (λ i. up (f i)) e, ap (λ i. down (f i)) e)))
    (λ (m : c ≡ p.second → ⊥).
    no_pair (or_from (eqb c p.first) (eqb c p.second) (ne_eqb c p.first n) (ne_eqb c p.second m))
    (step_else f p c n m))
    (cases_eq c p.second))
    (cases_eq c p.first)

-- ---- leftovers shrink, and keep their sign

abbrev pub Shrinks : ℤ → ℤ → Type 0
Shrinks a b = (up b ≤ up a) × (down b ≤ down a)

pub step_shrinks : (f : ℕ → ℤ) (p : PairRow) → Apart p → (c : ℕ) → Shrinks (f c) (step f p c)
step_shrinks f p d c = go (at f p d c)
  where
    go : At f p c → Shrinks (f c) (step f p c)
    go (in_pair t e m) = omega (arith, ints, e, towards_parts (f c) (match_of f p))
    go (no_pair t e) = omega (arith, ints, e)

pub walk_shrinks : (f : ℕ → ℤ) (ps : List PairRow) → Every Apart ps → (c : ℕ) → Shrinks (f c) (leftovers f ps c)
walk_shrinks f [] d c = omega arith
walk_shrinks f (p ∷ ps) d c = omega (arith, step_shrinks f p d.0 c, walk_shrinks (step f p) ps d.1 c)

-- ---- no pair is left with leftovers of opposite sign

abbrev pub Quiet : ℤ → ℤ → Type 0
Quiet a b = (min (up a) (down b) ≡ 0) × (min (down a) (up b) ≡ 0)

quiet_after : (a b a' b' : ℤ) → a' ≡ towards a (matched a b) → b' ≡ towards b (matched a b) → Quiet a' b'
quiet_after a b a' b' e g =
    omega (arith, ints, e, g, matched_is a b, towards_parts a (matched a b), towards_parts b (matched a b), one_sided a, one_sided b)

quiet_not_opposite : (a b : ℤ) → Quiet a b → ¬ (Opposite a b)
quiet_not_opposite a b q (inl h) = omega (arith, ints, q, h.0, h.1)
quiet_not_opposite a b q (inr h) = omega (arith, ints, q, h.0, h.1)

walk_serves : (f : ℕ → ℤ) (ps : List PairRow) → Every Apart ps → Every (λ p. Quiet (leftovers f ps p.first) (leftovers f ps p.second)) ps
walk_serves f [] d = tt
walk_serves f (p ∷ ps) d =
    let q : Quiet (step f p p.first) (step f p p.second) =
    quiet_after (f p.first) (f p.second) (step f p p.first) (step f p p.second) (step_first f p d.0) (step_second f p) in (
      omega (arith, q, walk_shrinks (step f p) ps d.1 p.first, walk_shrinks (step f p) ps d.1 p.second),
      walk_serves (step f p) ps d.1,
    )

pub every_map : {A : Type 0} {P Q : A → Type 0} → ((a : A) → P a → Q a) → (as' : List A) → Every P as' → Every Q as'
every_map h [] d = tt
every_map h (a ∷ rest) d = (h a d.0, every_map h rest d.1)

-- ---- the parts and the leftover make up the net value

part_whole : (v z w : ℤ) (m : ℕ) → Shrinks v z → m ≤ up z + down z → w ≡ towards z m → part_of v m +ℤ w ≡ z
part_whole (pos v) z w m s l e = omega (arith, ints, e, towards_parts z m)
part_whole (negsuc v) z w m s l e = omega (arith, ints, e, towards_parts z m)

walk_whole : (v : ℤ) (f : ℕ → ℤ) (ps : List PairRow) → Every Apart ps → (c : ℕ) → Shrinks v (f c) → parts_of v c ps (matches f ps) +ℤ leftovers f ps c ≡ f c
walk_whole v f [] d c s = omega (arith, ints)
walk_whole v f (p ∷ ps) d c s = go (at f p d.0 c) (walk_whole v (step f p) ps d.1 c (omega (arith, step_shrinks f p d.0 c)))
  where
    go : At f p c → parts_of v c ps (matches (step f p) ps) +ℤ leftovers (step f p) ps c ≡ step f p c → parts_of v c (p ∷ ps) (matches f (p ∷ ps)) +ℤ leftovers f (p ∷ ps) c ≡ f c
    go (in_pair t e l) ih =
        omega (arith, ints, ih, cond-true (of_pair p c) (part_of v (match_of f p)) (pos 0) t, part_whole v (f c) (step f p c) (match_of f p) s l e)
    go (no_pair t e) ih = omega (arith, ints, ih, e, cond-false (of_pair p c) (part_of v (match_of f p)) (pos 0) t)

-- ---- the two parts of a pair are equal and opposite

parts_opposed : (u v a b : ℤ) → Shrinks u a → Shrinks v b → part_of u (matched a b) +ℤ part_of v (matched a b) ≡ pos 0
parts_opposed (pos u) (pos v) a b s t = omega (arith, ints, matched_is a b)
parts_opposed (pos u) (negsuc v) a b s t = omega (arith, ints)
parts_opposed (negsuc u) (pos v) a b s t = omega (arith, ints)
parts_opposed (negsuc u) (negsuc v) a b s t = omega (arith, ints, matched_is a b)

walk_opposed : (v f : ℕ → ℤ) (ps : List PairRow) → Every Apart ps → ((c : ℕ) → Shrinks (v c) (f c)) → Both (λ p m. part_of (v p.first) m +ℤ part_of (v p.second) m ≡ pos 0) ps (matches f ps)
walk_opposed v f [] d s = tt
walk_opposed v f (p ∷ ps) d s = (
  parts_opposed (v p.first) (v p.second) (f p.first) (f p.second) (s p.first) (s p.second),
  walk_opposed v (step f p) ps d.1 (λ c. omega (arith, s c, step_shrinks f p d.0 c)),
)

pub walk_matched : (v : ℕ → ℤ) (ps : List PairRow) → Every Apart ps → Matched v ps (matches v ps) (leftovers v ps)
walk_matched v ps d = record {
  whole = λ c. walk_whole (v c) v ps d c (omega arith);
  opposed = walk_opposed v v ps d (λ c. omega arith);
  served = every_map (λ p q. quiet_not_opposite (leftovers v ps p.first) (leftovers v ps p.second) q) ps (walk_serves v ps d);
}

-- ---- a walk reads only the classes of its pairs: two starts that agree below n lead to leftovers and matches that do

pub record Below (n : ℕ) (p : PairRow) : Type 0 where
  pub one : p.first < n
  pub other : p.second < n
  pub apart : Apart p

abbrev pub Agree : ℕ → (ℕ → ℤ) → (ℕ → ℤ) → Type 0
Agree n f g = (c : ℕ) → c < n → f c ≡ g c

match_agree : (n : ℕ) (f g : ℕ → ℤ) (p : PairRow) → Below n p → Agree n f g → match_of f p ≡ match_of g p
match_agree n f g p b a = ap₂ matched (a p.first b.one) (a p.second b.other)

step_agree : (n : ℕ) (f g : ℕ → ℤ) (p : PairRow) → Below n p → Agree n f g → Agree n (step f p) (step g p)
step_agree n f g p b a c l =
    ⊎_elim
    (λ (e : c ≡ p.first). subst (λ (i : ℕ). step f p i ≡ step g p i) (sym e)
    (step_first f p b.apart ∙ ap₂ towards (a p.first b.one) (match_agree n f g p b a) ∙ sym (step_first g p b.apart)))
    (λ (d : c ≡ p.first → ⊥). ⊎_elim
    (λ (e : c ≡ p.second). subst (λ (i : ℕ). step f p i ≡ step g p i) (sym e)
    (step_second f p ∙ ap₂ towards (a p.second b.other) (match_agree n f g p b a) ∙ sym (step_second g p)))
    (λ (m : c ≡ p.second → ⊥). step_else f p c d m ∙ a c l ∙ sym (step_else g p c d m))
    (cases_eq c p.second))
    (cases_eq c p.first)

pub leftovers_agree : (n : ℕ) (f g : ℕ → ℤ) (ps : List PairRow) → Every (Below n) ps → Agree n f g → Agree n (leftovers f ps) (leftovers g ps)
leftovers_agree n f g [] b a = a
leftovers_agree n f g (p ∷ ps) b a = leftovers_agree n (step f p) (step g p) ps b.1 (step_agree n f g p b.0 a)

pub matches_agree : (n : ℕ) (f g : ℕ → ℤ) (ps : List PairRow) → Every (Below n) ps → Agree n f g → matches f ps ≡ matches g ps
matches_agree n f g [] b a = refl
matches_agree n f g (p ∷ ps) b a = ap₂ ◌∷◌ (match_agree n f g p b.0 a) (matches_agree n (step f p) (step g p) ps b.1 (step_agree n f g p b.0 a))

pub credits_agree : (n : ℕ) (k : Rounding) (f g : ℕ → ℤ) (ps : List PairRow) → Every (Below n) ps → Agree n f g → (c : ℕ) → credits k f ps c ≡ credits k g ps c
credits_agree n k f g [] b a c = refl
credits_agree n k f g (p ∷ ps) b a c =
    ap₂ (λ (m r : ℕ). cond (of_pair p c) (k.credit p.crt m) 0 + r) (match_agree n f g p b.0 a) (credits_agree n k (step f p) (step g p) ps b.1 (step_agree n f g p b.0 a) c)
