-- An array that calls of a closure fill, one at each place.
use Rattle.std.proofs.Common.{◌≡◌, ℕ, zero, suc, ◌+◌, ◌<◌, ◌≤◌, List, get_or, sym, ap, ◌∙◌, subst, ⊎_elim, arith}
use Rattle.std.proofs.lemmas.Bool.{cases_lt}
use Rattle.std.specs.Fn.{Called}
use Rattle.std.specs.Array.{IsFromFnResult, IsFromFnResultFrom}
use denote.Param.Members.{Mut}

-- where each call below n gives what h says, and leaves the closure as it was, the places have what h says
module _ {F B : Type 0} (g : Mut F (ℕ × Unit {0}) B) (f : F) (h : ℕ → B) (n : ℕ) (gives : (i : ℕ) (y : B) (q : F) → i < n → Called g f (i, tt) y q → (y ≡ h i) × (q ≡ f)) (ys : List B) where
  filled_from : (start many : ℕ) (p : F) → p ≡ f → start + many ≤ n → IsFromFnResultFrom g p ys start many → (i : ℕ) (d : B) → start ≤ i → i < start + many → get_or ys i d ≡ h i
  filled_from start zero p e within r i d low high = absurd (omega arith)
  filled_from start (suc many) p e within r i d low high =
      let called = subst (λ k. Called g k (start, tt) r.1 r.0) e r.3 in
      let gave = gives start r.1 r.0 (omega arith) called in
      ⊎_elim
      (λ (past : start < i). filled_from (start + 1) many r.0 gave.1 (omega arith) r.4 i d (omega arith) (omega arith))
      (λ (here : i ≤ start). let same : i ≡ start = omega arith in ap (λ k. get_or ys k d) same ∙ r.2.1 d ∙ gave.0 ∙ ap h (sym same))
      (cases_lt start i)

  pub filled_at : IsFromFnResult g f ys n → (i : ℕ) (d : B) → i < n → get_or ys i d ≡ h i
  filled_at r i d l = filled_from 0 n f (λ k. f) (omega arith) r.each i d (omega arith) (omega arith)
