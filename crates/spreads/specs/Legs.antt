-- What the walk over the pairs does to the legs, which are the classes of a sheet, and what it tells. Assumes nothing.
use Rattle.std.specs.Prelude.{◌≡◌, ℕ, ◌+◌, ◌<◌, ◌≤◌, List, [], ◌∷◌, length, ℤ, slice_index_or, slice_set, unsigned_abs}
use Rattle.terms.specs.Limits.{class_count, whole}
use Rattle.rules.specs.declared.rows.PairRow.{PairRow}
use Rattle.rules.specs.Margin.{Rounding, matched, match_of, towards, step, leftovers, credits}
use Rattle.spreads.specs.declared.spread.Spread.{Spread}

-- what a walk needs of a pair
pub record Sound (p : PairRow) : Type 0 where
  pub one : p.first < class_count
  pub other : p.second < class_count
  pub apart : p.first ≡ p.second → ⊥
  pub small : p.crt ≤ whole

-- ---- what each pair matches, from the leftovers f

abbrev pub told : PairRow → ℕ → Spread
told p m = record { pair = p; matched = m }

abbrev pub spreads_of : (ℕ → ℤ) → List PairRow → List Spread
spreads_of f [] = []
spreads_of f (p ∷ ps) = told p (match_of f p) ∷ spreads_of (step f p) ps

-- of no pair
abbrev pub no_spread : Spread
no_spread = record { pair = record { first = 0; second = 0; crt = 0 }; matched = 0 }

-- ---- legs of a type L, of which `left` is what is left, `credited` what is credited, and `with` gives another leftover and other
-- credits; `none` stands for what is past the last class

module _ {L : Type 0} (k : Rounding) (left : L → ℤ) (credited : L → ℕ) (with : L → ℤ → ℕ → L) (none : L) where
  -- a leg of which m is matched, for a credit at the rate crt
  abbrev pub with_credit : ℕ → ℕ → L → L
  with_credit m crt w = with w (towards (left w) m) (credited w + k.credit crt m)

module _ {L : Type 0} (left : L → ℤ) (none : L) where
  abbrev pub left_of : List L → ℕ → ℤ
  left_of ls c = left (slice_index_or ls c none)

  -- what a pair matches
  abbrev pub part : PairRow → List L → ℕ
  part p ls = matched (left_of ls p.first) (left_of ls p.second)

module _ {L : Type 0} (k : Rounding) (left : L → ℤ) (credited : L → ℕ) (with : L → ℤ → ℕ → L) (none : L) where
  -- the legs once a pair is served: two of them change
  abbrev pub served : PairRow → List L → List L
  served p ls =
      let m = part left none p ls in
      slice_set (slice_set ls p.first (with_credit k left credited with none m p.crt (slice_index_or ls p.first none))) p.second (with_credit k left credited with none m p.crt (slice_index_or ls p.second none))

-- its part and the credits for it fit both legs
pub record Fits {L : Type 0} (k : Rounding) (left : L → ℤ) (credited : L → ℕ) (largest most : ℕ) (none : L) (p : PairRow) (ls : List L) : Type 0 where
  pub matched : part left none p ls ≤ largest
  pub first : credited (slice_index_or ls p.first none) + k.credit p.crt (part left none p ls) ≤ most
  pub second : credited (slice_index_or ls p.second none) + k.credit p.crt (part left none p ls) ≤ most

-- ---- the walk

-- there is a leg for each class, no pair is served yet, and no leftover is further from 0 than n
pub record Fresh {L : Type 0} (left : L → ℤ) (credited : L → ℕ) (n : ℕ) (none : L) (ls : List L) : Type 0 where
  pub wide : class_count ≤ length ls
  pub credits : (c : ℕ) → c < class_count → credited (slice_index_or ls c none) ≡ 0
  pub small : (c : ℕ) → c < class_count → unsigned_abs (left_of left none ls c) ≤ n

-- The pairs ps lead from the legs ls to ms, and match xs: each leg has what is left of it and what is credited, and is otherwise as it was.
pub record Walked {L : Type 0} (k : Rounding) (left : L → ℤ) (with : L → ℤ → ℕ → L) (ps : List PairRow) (none : L) (ls ms : List L) (xs : List Spread) : Type 0 where
  pub legs : (c : ℕ) → c < class_count →
      slice_index_or ms c none ≡ with (slice_index_or ls c none) (leftovers (left_of left none ls) ps c) (credits k (left_of left none ls) ps c)
  pub spreads : xs ≡ spreads_of (left_of left none ls) ps
