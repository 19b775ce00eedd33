-- The list of matches, one match more at a time, and how many pairs pass a test. Assumes nothing.
use Rattle.std.proofs.Common.{◌≡◌, ℕ, suc, ◌+◌, ◌<◌, Bool, cond, List, [], ◌∷◌, ◌++◌, length, map, get_or, drop, set, ℤ, sym, refl, ap, ◌∙◌, append_assoc, add-one, drop-cons}
use lib.Seq.{set_at}
use Rattle.std.specs.Prelude.{count_by}
use Rattle.std.proofs.lemmas.List.Sums.{sum_by-cons}
use Rattle.rules.specs.declared.rows.PairRow.{PairRow}
use Rattle.rules.specs.Margin.{match_of, step}
use Rattle.rules.specs.Held.{count_pairs}
use Rattle.spreads.specs.Legs.{spreads_of}
use Rattle.deposits.specs.declared.records.Match.{Match}
use Rattle.deposits.specs.Told.{match_record, told_by, told_of}

pub told_length : (f : ℕ → ℤ) (ps : List PairRow) → length (told_by f ps) ≡ length ps
told_length f [] = refl
told_length f (q ∷ ps) = ap suc (told_length (step f q) ps)

pub told_spreads : (f : ℕ → ℤ) (ps : List PairRow) → map told_of (spreads_of f ps) ≡ told_by f ps
told_spreads f [] = refl
told_spreads f (p ∷ ps) = ap (λ (l : List Match). match_record p (match_of f p) ∷ l) (told_spreads (step f p) ps)

-- one record more behind those that stand at the front of a memory
pub front_more : (xs m : List Match) (i : ℕ) (x : Match) → length xs ≡ i → i < length m → set (xs ++ drop i m) i x ≡ (xs ++ x ∷ []) ++ drop (i + 1) m
front_more xs m i x e h =
    ap (λ l. set (xs ++ l) i x) (drop-cons m i x h)
    ∙ set_at xs (get_or m i x) (drop (suc i) m) x i e
    ∙ sym (append_assoc xs (x ∷ []) (drop (suc i) m))
    ∙ ap (λ k. (xs ++ x ∷ []) ++ drop k m) (sym (add-one i))

-- ---- how many pairs pass a test

pub count_is : (t : PairRow → Bool) (ps : List PairRow) → count_by t ps ≡ count_pairs t ps
count_is t [] = refl
count_is t (p ∷ ps) = sum_by-cons (λ q. cond (t q) 1 0) p ps ∙ ap (λ (n : ℕ). cond (t p) 1 0 + n) (count_is t ps)
