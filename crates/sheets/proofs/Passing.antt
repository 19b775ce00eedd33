-- The pairs that are left as one after the other is taken. Assumes nothing.
use Rattle.std.proofs.Common.{◌≡◌, ℕ, zero, suc, ◌+◌, List, [], ◌∷◌, length, drop, Some, None, Option, ap, refl, sym, ◌∙◌, arith}
use Rattle.std.proofs.lemmas.List.{drop_more}
use Rattle.std.proofs.lemmas.Option.{slice_get_within, get_or_from_slice_get}
use Rattle.std.proofs.iter.runs.Sources.{from_front, as_is}
use Rattle.std.specs.Iterator.{YieldsFirst}
use Rattle.std.specs.Iterator.Runs.{YieldsInOrder}
use Rattle.std.specs.List.{slice_get}
use Rattle.std.specs.Option.{MatchOption}
use Rattle.rules.specs.declared.rows.PairRow.{PairRow}

none_left : (pairs : List PairRow) (place : ℕ) → slice_get pairs place ≡ None → drop place pairs ≡ []
none_left [] zero e = refl
none_left [] (suc place) e = refl
none_left (p ∷ rest) zero e = absurd (let z : ◌≡◌ {A = ℕ} 0 1 = cc in omega arith)
none_left (p ∷ rest) (suc place) e = none_left rest place e

-- from a place on there is the pair at it and what is after it, or nothing
pub left_from : (pairs : List PairRow) (place : ℕ) (o : Option PairRow) → o ≡ slice_get pairs place → MatchOption o (drop place pairs ≡ []) (λ pair. drop place pairs ≡ pair ∷ drop (place + 1) pairs)
left_from pairs place (Some pair) e = drop_more pairs place pair (slice_get_within pairs place pair (sym e)) ∙ ap (λ p. p ∷ drop (place + 1) pairs) (get_or_from_slice_get pairs place pair pair (sym e))
left_from pairs place None e = none_left pairs place (sym e)

-- an iterator that is seen as the list of what is left gives that list
pub left_runs : YieldsInOrder (YieldsFirst {A = PairRow} (λ left. left)) (λ left. left)
left_runs p s = as_is p p.from (from_front (YieldsFirst {A = PairRow} (λ left. left)) (λ x. x) (λ left. left) (λ s t h. ap length h.0) (λ s x t h. h) p s)
