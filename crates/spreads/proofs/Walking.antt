-- The walk over the pairs, one pair more at a time. Assumes nothing.
use Rattle.std.proofs.Common.{◌≡◌, ℕ, zero, suc, ◌+◌, ◌*◌, ◌<◌, ◌≤◌, true, cond, eqb, ◌≢◌, List, [], ◌∷◌, ◌++◌, length, get_or, set, ℤ, nat_abs, sym, refl, ap, ◌∙◌, subst, ap₂, ⊎_elim, mul-le-mul_right, mul-le-mul_left, arith, length-set}
use borrow.Author.Differences.{ints}
use Rattle.std.proofs.Math.Nat.{mul-div_cancel_left, div-le_of_le-mul}
use Rattle.std.proofs.lemmas.List.{get_or-set_same, get_or-set_other}
use Rattle.std.proofs.lemmas.Bool.{cases_eq, eq-eqb, ne_eqb, cond-true, cond-false, or_left, or_right, or_from}
use Rattle.rules.specs.declared.rows.PairRow.{PairRow}
use Rattle.terms.specs.Limits.{class_count, whole}
use Rattle.rules.specs.Rows.{Rows, Lawful, LawfulPair, Every}
use Rattle.rules.specs.Margin.{Rounding, match_of, matched, of_pair, step, leftovers, credits, towards}
use Rattle.rules.proofs.Parts.{nat_abs_is, matched_is, towards_parts}
use Rattle.rules.proofs.Walk.{Apart, At, at, in_pair, no_pair, Below, step_shrinks, walk_shrinks, every_map, step_first, step_second, step_else}
use Rattle.rules.proofs.Runs.{PairLawful}
use Rattle.rules.proofs.Accuracy.{lawful_pair}
use Rattle.spreads.specs.declared.spread.Spread.{Spread}
use Rattle.spreads.specs.Legs.{Fits, Sound, left_of, no_spread, part, served, spreads_of, with_credit}

-- ---- one pair more

pub leftovers_push : (f : ℕ → ℤ) (ps : List PairRow) (p : PairRow) → leftovers f (ps ++ p ∷ []) ≡ step (leftovers f ps) p
leftovers_push f [] p = refl
leftovers_push f (q ∷ ps) p = leftovers_push (step f q) ps p

pub credits_push : (k : Rounding) (f : ℕ → ℤ) (ps : List PairRow) (p : PairRow) (c : ℕ) →
    credits k f (ps ++ p ∷ []) c ≡ credits k f ps c + cond (of_pair p c) (k.credit p.crt (match_of (leftovers f ps) p)) 0
credits_push k f [] p c = omega arith
credits_push k f (q ∷ ps) p c = omega (arith, credits_push k (step f q) ps p c)

pub spreads_push : (f : ℕ → ℤ) (ps : List PairRow) (p : PairRow) → spreads_of f (ps ++ p ∷ []) ≡ spreads_of f ps ++ record { pair = p; matched = match_of (leftovers f ps) p } ∷ []
spreads_push f [] p = refl
spreads_push f (q ∷ ps) p = ap (λ (l : List Spread). record { pair = q; matched = match_of f q } ∷ l) (spreads_push (step f q) ps p)

pub spreads_length : (f : ℕ → ℤ) (ps : List PairRow) → length (spreads_of f ps) ≡ length ps
spreads_length f [] = refl
spreads_length f (q ∷ ps) = ap suc (spreads_length (step f q) ps)

-- ---- what holds of each pair holds of those before a place and of those after it

pub every_front : {A : Type 0} (P : A → Type 0) (xs ys : List A) → Every P (xs ++ ys) → Every P xs
every_front P [] ys h = tt
every_front P (x ∷ xs) ys h = (h.0, every_front P xs ys h.1)

pub every_back : {A : Type 0} (P : A → Type 0) (xs ys : List A) → Every P (xs ++ ys) → Every P ys
every_back P [] ys h = h
every_back P (x ∷ xs) ys h = every_back P xs ys h.1

every_push : {A : Type 0} (P : A → Type 0) (xs : List A) (x : A) → Every P xs → P x → Every P (xs ++ x ∷ [])
every_push P [] x h p = (p, tt)
every_push P (y ∷ xs) x h p = (h.0, every_push P xs x h.1 p)

-- ---- what the laws of a sheet say of its pairs

sound : (rows : Rows) → Lawful rows → (p : PairRow) → LawfulPair rows p → Sound p
sound rows h p l = let q : PairLawful p = lawful_pair rows h p l in record { one = q.one; other = q.other; apart = q.apart; small = q.small }

pub sounds : (rows : Rows) → Lawful rows → Every Sound rows.pairs
sounds rows h = every_map (sound rows h) rows.pairs h.of_pairs

pub below : (rows : Rows) → Lawful rows → Every (Below class_count) rows.pairs
below rows h = every_map (λ p s. record { one = s.one; other = s.other; apart = s.apart }) rows.pairs (sounds rows h)

aparts : (ps : List PairRow) → Every Sound ps → Every Apart ps
aparts ps h = every_map (λ p s. s.apart) ps h

-- ---- how much a pair matches: no more than was left of its classes

matched_below : (f : ℕ → ℤ) (p : PairRow) (n : ℕ) → nat_abs (f p.first) ≤ n → match_of f p ≤ n
matched_below f p n l = omega (arith, l, nat_abs_is (f p.first), matched_is (f p.first) (f p.second))

step_small : (f : ℕ → ℤ) (p : PairRow) → Sound p → (n : ℕ) → ((c : ℕ) → c < class_count → nat_abs (f c) ≤ n) → (c : ℕ) → c < class_count → nat_abs (step f p c) ≤ n
step_small f p s n h c l = omega (arith, h c l, nat_abs_is (f c), nat_abs_is (step f p c), step_shrinks f p s.apart c)

pub spreads_small : (f : ℕ → ℤ) (ps : List PairRow) → Every Sound ps → (n : ℕ) → ((c : ℕ) → c < class_count → nat_abs (f c) ≤ n) → (i : ℕ) → (get_or (spreads_of f ps) i no_spread).matched ≤ n
spreads_small f [] d n h i = omega arith
spreads_small f (p ∷ ps) d n h zero = matched_below f p n (h p.first d.0.one)
spreads_small f (p ∷ ps) d n h (suc i) = spreads_small (step f p) ps d.1 n (step_small f p d.0 n h) i

-- ---- two places written: a property of each, at the second place, at the first, elsewhere

two_places : {X : Type 0} (d : X) (ls : List X) (i j : ℕ) (P Q : X) → i < length ls → j < length ls → i ≢ j → (R : ℕ → X → Type 0) → R i P → R j Q →
    (c : ℕ) → (c ≢ i → c ≢ j → R c (get_or ls c d)) → R c (get_or (set (set ls i P) j Q) c d)
two_places {X = X} d ls i j P Q a b k R f s c e =
    let ys : List X = set (set ls i P) j Q in
    ⊎_elim
    (λ (q : c ≡ j). subst (λ (n : ℕ). R n (get_or ys n d)) (sym q) (rw (get_or-set_same (set ls i P) j Q d (rw (length-set) b)) s))
    (λ (n : c ≡ j → ⊥). rw (get_or-set_other (set ls i P) j c Q d n)
    (⊎_elim
    (λ (q : c ≡ i). subst (λ (n : ℕ). R n (get_or (set ls i P) n d)) (sym q) (rw (get_or-set_same ls i P d a) f))
    (λ (m : c ≡ i → ⊥). rw (get_or-set_other ls i c P d m) (e m n))
    (cases_eq c i)))
    (cases_eq c j)

-- ---- how large credits are

one_credit : (crt m z w : ℕ) → crt ≤ whole → w + m ≡ z → crt * m + whole * w ≤ whole * z
one_credit crt m z w l e = omega (arith, mul-le-mul_right m l)

credit_more : (unit v rest part z w : ℕ) → unit * v ≤ part → unit * rest ≤ whole * w → part + whole * w ≤ whole * z → unit * (v + rest) ≤ whole * z
credit_more unit v rest part z w a b c = omega arith

within : (unit n most : ℕ) → 0 < unit → unit * n ≤ unit * most → n ≤ most
within unit n most h l = subst (λ (q : ℕ). q ≤ most) (mul-div_cancel_left n h) (div-le_of_le-mul unit l)

first_of : (p : PairRow) → of_pair p p.first ≡ true
first_of p = or_left (eqb p.first p.first) (eqb p.first p.second) (eq-eqb p.first p.first refl)

second_of : (p : PairRow) → of_pair p p.second ≡ true
second_of p = or_right (eqb p.second p.first) (eqb p.second p.second) (eq-eqb p.second p.second refl)

module _ (k : Rounding) (unit : ℕ) (lowered : (crt m : ℕ) → unit * k.credit crt m ≤ crt * m) where
  -- the credits of a class are at most its whole net value
  pub credits_small : (f : ℕ → ℤ) (ps : List PairRow) → Every Sound ps → (c : ℕ) → unit * credits k f ps c ≤ whole * nat_abs (f c)
  credits_small f [] d c = omega arith
  credits_small f (p ∷ ps) d c = go (at f p d.0.apart c) (credits_small (step f p) ps d.1 c)
    where
      go : At f p c → unit * credits k (step f p) ps c ≤ whole * nat_abs (step f p c) → unit * credits k f (p ∷ ps) c ≤ whole * nat_abs (f c)
      go (in_pair t e l) ih =
          let same : nat_abs (step f p c) + match_of f p ≡ nat_abs (f c) =
          omega (arith, ints, nat_abs_is (f c), nat_abs_is (step f p c), e, towards_parts (f c) (match_of f p)) in
          credit_more unit (cond (of_pair p c) (k.credit p.crt (match_of f p)) 0) (credits k (step f p) ps c) (p.crt * match_of f p) (nat_abs (f c)) (nat_abs (step f p c))
          (rw (cond-true (of_pair p c) (k.credit p.crt (match_of f p)) 0 t) (lowered p.crt (match_of f p)))
          ih
          (one_credit p.crt (match_of f p) (nat_abs (f c)) (nat_abs (step f p c)) d.0.small same)
      go (no_pair t e) ih =
          rw (cond-false (of_pair p c) (k.credit p.crt (match_of f p)) 0 t) (omega (arith, ih, ap (λ z. whole * nat_abs z) e))

-- ---- what a walk from the legs `init` has come to

module _ {L : Type 0} (k : Rounding) (left : L → ℤ) (credited : L → ℕ) (with : L → ℤ → ℕ → L) (none : L) (init : List L) where
  abbrev pub Reached : List PairRow → List L → Type 0
  Reached ps ls = (c : ℕ) → c < class_count → get_or ls c none ≡ with (get_or init c none) (leftovers (left_of left none init) ps c) (credits k (left_of left none init) ps c)

  module _ (shows_left : (w : L) (l : ℤ) (n : ℕ) → left (with w l n) ≡ l) (shows_credits : (w : L) (l : ℤ) (n : ℕ) → credited (with w l n) ≡ n) (ps : List PairRow) (ls : List L) (r : Reached ps ls) where
    left_reached : (c : ℕ) → c < class_count → left (get_or ls c none) ≡ leftovers (left_of left none init) ps c
    left_reached c l = ap left (r c l) ∙ shows_left (get_or init c none) (leftovers (left_of left none init) ps c) (credits k (left_of left none init) ps c)

    credits_reached : (c : ℕ) → c < class_count → credited (get_or ls c none) ≡ credits k (left_of left none init) ps c
    credits_reached c l = ap credited (r c l) ∙ shows_credits (get_or init c none) (leftovers (left_of left none init) ps c) (credits k (left_of left none init) ps c)

    pub part_reached : (p : PairRow) → Sound p → part left none p ls ≡ match_of (leftovers (left_of left none init) ps) p
    part_reached p s = ap₂ matched (left_reached p.first s.one) (left_reached p.second s.other)

    module _ (p : PairRow) (s : Sound p) (sound : Every Sound ps) where
      module _ (n : ℕ) (small : (c : ℕ) → c < class_count → nat_abs (left_of left none init c) ≤ n) where
        part_small : part left none p ls ≤ n
        part_small =
            let f : ℕ → ℤ = left_of left none init in
            omega (
              arith,
              part_reached p s,
              matched_is (leftovers f ps p.first) (leftovers f ps p.second),
              walk_shrinks f ps (aparts ps sound) p.first,
              small p.first s.one,
              nat_abs_is (f p.first),
            )

        -- there is room for what is credited
        pub fits : (unit most : ℕ) → ((crt m : ℕ) → unit * k.credit crt m ≤ crt * m) → 0 < unit → whole * n ≤ unit * most → Fits k left credited n most none p ls
        fits unit most lowered counted room =
            let f : ℕ → ℤ = left_of left none init in
            let total : (c : ℕ) → c < class_count → credits k f (ps ++ p ∷ []) c ≤ most =
            λ c l. within unit (credits k f (ps ++ p ∷ []) c) most counted
            (omega (arith, credits_small k unit lowered f (ps ++ p ∷ []) (every_push Sound ps p sound s) c, mul-le-mul_left whole (small c l), room)) in
            let one : (c : ℕ) → c < class_count → of_pair p c ≡ true → credited (get_or ls c none) + k.credit p.crt (part left none p ls) ≤ most =
            λ c l t. rw (credits_reached c l, part_reached p s) (omega (arith, total c l, credits_push k f ps p c, cond-true (of_pair p c) (k.credit p.crt (match_of (leftovers f ps) p)) 0 t)) in
            record { matched = part_small; first = one p.first s.one (first_of p); second = one p.second s.other (second_of p) }

      module _ (replaces : (w : L) (a b : ℤ) (m n : ℕ) → with (with w a m) b n ≡ with w b n) where
        -- a class of the pair
        with_credit_is : (c : ℕ) → c < class_count → of_pair p c ≡ true
            → step (leftovers (left_of left none init) ps) p c ≡ towards (leftovers (left_of left none init) ps c) (match_of (leftovers (left_of left none init) ps) p)
            → with_credit k left credited with none (part left none p ls) p.crt (get_or ls c none)
            ≡ with (get_or init c none) (leftovers (left_of left none init) (ps ++ p ∷ []) c) (credits k (left_of left none init) (ps ++ p ∷ []) c)
        with_credit_is c l t e =
            let f : ℕ → ℤ = left_of left none init in
            let m : ℕ = match_of (leftovers f ps) p in
            let v : ℕ = k.credit p.crt m in
            let left_is : towards (leftovers f ps c) m ≡ leftovers f (ps ++ p ∷ []) c = sym e ∙ sym (ap (λ (g : ℕ → ℤ). g c) (leftovers_push f ps p)) in
            let credit_is : credits k f ps c + v ≡ credits k f (ps ++ p ∷ []) c = omega (arith, credits_push k f ps p c, cond-true (of_pair p c) v 0 t) in
            ap₂ (λ (z : ℤ) (q : ℕ). with (get_or ls c none) (towards z (part left none p ls)) (q + k.credit p.crt (part left none p ls))) (left_reached c l) (credits_reached c l)
            ∙ ap (λ (q : ℕ). with (get_or ls c none) (towards (leftovers f ps c) q) (credits k f ps c + k.credit p.crt q)) (part_reached p s)
            ∙ ap (λ (w : L). with w (towards (leftovers f ps c) m) (credits k f ps c + v)) (r c l)
            ∙ replaces (get_or init c none) (leftovers f ps c) (towards (leftovers f ps c) m) (credits k f ps c) (credits k f ps c + v)
            ∙ ap₂ (λ (z : ℤ) (q : ℕ). with (get_or init c none) z q) left_is credit_is

        other_is : (c : ℕ) → c < class_count → c ≢ p.first → c ≢ p.second
            → get_or ls c none ≡ with (get_or init c none) (leftovers (left_of left none init) (ps ++ p ∷ []) c) (credits k (left_of left none init) (ps ++ p ∷ []) c)
        other_is c l a b =
            let f : ℕ → ℤ = left_of left none init in
            let v : ℕ = k.credit p.crt (match_of (leftovers f ps) p) in
            let left_is : leftovers f ps c ≡ leftovers f (ps ++ p ∷ []) c = sym (step_else (leftovers f ps) p c a b) ∙ sym (ap (λ (g : ℕ → ℤ). g c) (leftovers_push f ps p)) in
            let credit_is : credits k f ps c ≡ credits k f (ps ++ p ∷ []) c =
            omega (arith, credits_push k f ps p c, cond-false (of_pair p c) v 0 (or_from (eqb c p.first) (eqb c p.second) (ne_eqb c p.first a) (ne_eqb c p.second b))) in
            r c l ∙ ap₂ (λ (z : ℤ) (q : ℕ). with (get_or init c none) z q) left_is credit_is

        pub reached_more : (ms : List L) → class_count ≤ length ls → ms ≡ served k left credited with none p ls → Reached (ps ++ p ∷ []) ms
        reached_more ms b e c l =
            let f : ℕ → ℤ = left_of left none init in
            ap (λ (xs : List L). get_or xs c none) e
            ∙ two_places none ls p.first p.second
            (with_credit k left credited with none (part left none p ls) p.crt (get_or ls p.first none)) (with_credit k left credited with none (part left none p ls) p.crt (get_or ls p.second none))
            (omega (arith, s.one)) (omega (arith, s.other)) s.apart
            (λ (i : ℕ) (w : L). w ≡ with (get_or init i none) (leftovers f (ps ++ p ∷ []) i) (credits k f (ps ++ p ∷ []) i))
            (with_credit_is p.first s.one (first_of p) (step_first (leftovers f ps) p s.apart))
            (with_credit_is p.second s.other (second_of p) (step_second (leftovers f ps) p))
            c (other_is c l)

  -- before the first pair
  pub reached_none : ((w : L) → with w (left w) (credited w) ≡ w) → ((c : ℕ) → c < class_count → credited (get_or init c none) ≡ 0) → Reached [] init
  reached_none itself fresh c l =
      sym (itself (get_or init c none)) ∙ ap (λ (q : ℕ). with (get_or init c none) (left (get_or init c none)) q) (fresh c l)
