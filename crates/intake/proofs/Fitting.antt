-- The figures of a deposit that is told fit their fields. Assumes nothing.
use Rattle.std.proofs.Common.{◌≡◌, ℕ, zero, suc, ◌+◌, ◌^◌, ◌<◌, ◌≤◌, Bool, true, false, cond, List, [], ◌∷◌, length, ℤ, pos, ◌-ℤ◌, ◌≤ℤ◌, nat_abs, refl, ap, arith}
use borrow.Author.Differences.{ints}
use Rattle.std.proofs.lemmas.Bool.{and_from, lt-ltb}
use Rattle.terms.specs.Limits.{security_count, class_count, pair_limit}
use Rattle.frames.specs.Fields.{carries}
use Rattle.frames.specs.Kinds.{deposit_kind, total_kind}
use Rattle.rules.specs.declared.rows.PairRow.{PairRow}
use Rattle.rules.specs.Rows.{Rows, Lawful}
use Rattle.rules.specs.Margin.{rounded, sums_of, AmountsSmall, DRR, DRS, DSWK, KSPK, DOLR, DSPAN}
use Rattle.rules.specs.Held.{held, held_class, securities_held, classes_held, count_pairs, both_held, pairs_held}
use Rattle.rules.specs.Laws.{deposit_limit, span_limit}
use Rattle.terms.specs.Sums.{count_below, sum_belowℤ}
use Rattle.rules.proofs.Classes.{abs_minus}
use Rattle.rules.proofs.Fits.{deposits_within, spans_within}
use Rattle.rules.proofs.Sums.{sum_const, sum_le}
use Rattle.rules.proofs.Theorems.{credits_within, no_negative}
use Rattle.intake.specs.Answering.{class_told, total_told}

-- ---- counts

count_small : (n : ℕ) (p : ℕ → Bool) → count_below n p ≤ n
count_small n p = omega (arith, sum_le n (λ i. cond (p i) 1 0) (λ i. 1) (λ i l. one (p i)), sum_const n 1)
  where
    one : (b : Bool) → cond b 1 0 ≤ 1
    one true = omega arith
    one false = omega arith

pairs_small : (t : PairRow → Bool) (ps : List PairRow) → count_pairs t ps ≤ length ps
pairs_small t [] = omega arith
pairs_small t (p ∷ ps) = omega (arith, one (t p), pairs_small t ps)
  where
    one : (b : Bool) → cond b 1 0 ≤ 1
    one true = omega arith
    one false = omega arith

sum_owed : (n : ℕ) (f : ℕ → ℤ) → ((i : ℕ) → pos 0 ≤ℤ f i) → pos 0 ≤ℤ sum_belowℤ n f
unfolding sum_belowℤ
sum_owed zero f h = omega (arith, ints)
sum_owed (suc n) f h = omega (arith, ints, sum_owed n f h, h n)

-- ---- fields

class_carried : (c drr drs dswk kspk dolr : ℕ) → c < 16 ^ 2 → drr ≤ deposit_limit → drs ≤ deposit_limit → dswk ≤ deposit_limit → kspk ≤ deposit_limit → dolr ≤ deposit_limit
    → carries deposit_kind.widths (c ∷ drr ∷ drs ∷ dswk ∷ kspk ∷ dolr ∷ []) ≡ true
class_carried c drr drs dswk kspk dolr l a b d e f =
    and_from _ _ (lt-ltb c (16 ^ 2) l)
    (and_from _ _ (lt-ltb drr (16 ^ 16) (omega arith))
    (and_from _ _ (lt-ltb drs (16 ^ 16) (omega arith))
    (and_from _ _ (lt-ltb dswk (16 ^ 16) (omega arith))
    (and_from _ _ (lt-ltb kspk (16 ^ 16) (omega arith))
    (and_from _ _ (lt-ltb dolr (16 ^ 16) (omega arith)) refl)))))

total_carried : (classes securities pairs dspan : ℕ) → classes ≤ class_count → securities ≤ security_count → pairs ≤ pair_limit → dspan ≤ span_limit
    → carries total_kind.widths (classes ∷ securities ∷ pairs ∷ dspan ∷ []) ≡ true
total_carried classes securities pairs dspan a b d e =
    and_from _ _ (lt-ltb classes (16 ^ 2) (omega arith))
    (and_from _ _ (lt-ltb securities (16 ^ 4) (omega arith))
    (and_from _ _ (lt-ltb pairs (16 ^ 2) (omega arith))
    (and_from _ _ (lt-ltb dspan (16 ^ 16) (omega arith)) refl)))

difference_small : (z : ℤ) (a k limit : ℕ) → z ≡ pos a -ℤ pos k → k ≤ a → a ≤ limit → nat_abs z ≤ limit
difference_small z a k limit e h l = omega (arith, ap nat_abs e, abs_minus a k)

magnitude_small : (z : ℤ) (limit : ℕ) → pos 0 ≤ℤ z → z ≤ℤ pos limit → nat_abs z ≤ limit
magnitude_small z limit h l = omega (arith, ints)

module _ (rows : Rows) (lawful : Lawful rows) (nets : ℕ → ℤ) (amounts : AmountsSmall rows nets) where
  pub classes_fit : (c : ℕ) → c < class_count → carries deposit_kind.widths (class_told rows nets c) ≡ true
  classes_fit c l =
      let whole = deposits_within rows lawful nets amounts c in
      let credit = credits_within rows lawful (sums_of rounded rows nets) c in
      let drr = DRR rounded rows nets c in
      let drs = DRS rounded rows nets c in
      let dswk = DSWK rounded rows nets c in
      let kspk = KSPK rounded rows nets c in
      class_carried c drr drs dswk kspk (nat_abs (DOLR rounded rows nets c)) (omega arith) (omega arith) (omega arith) (omega arith) (omega arith)
      (difference_small (DOLR rounded rows nets c) (drr + drs + dswk) kspk deposit_limit refl (omega arith) whole)

  pub total_fits : carries total_kind.widths (total_told rows nets) ≡ true
  total_fits =
      total_carried (classes_held rows nets) (securities_held nets) (pairs_held rows nets) (nat_abs (DSPAN rounded rows nets))
      (count_small class_count (held_class rows nets)) (count_small security_count (held nets)) (omega (arith, pairs_small (both_held rows nets) rows.pairs, lawful.few_pairs))
      (magnitude_small (DSPAN rounded rows nets) span_limit (sum_owed class_count (DOLR rounded rows nets) (no_negative rows lawful (sums_of rounded rows nets))) (spans_within rows lawful nets amounts))
