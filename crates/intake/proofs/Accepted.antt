-- What is accepted, one after the other. Assumes nothing.
use Rattle.std.proofs.Common.{◌≡◌, ℕ, ◌⊎◌, List, [], ◌∷◌, ◌++◌, inl, inr, sym, refl, ap, ◌∙◌, subst, ⊎_elim, arith}
use Rattle.std.proofs.lemmas.List.{append-nil, append_assoc}
use Rattle.intake.specs.Listings.{Each}

-- where an element stands in a list with one more at its end
split_push : {A : Type 0} (xs : List A) (x : A) (before : List A) (y : A) (after : List A) → xs ++ x ∷ [] ≡ before ++ y ∷ after
    → ((before ≡ xs) × (y ≡ x)) ⊎ ((front : List A) × (xs ≡ before ++ y ∷ front))
split_push [] x [] y after e = inl (refl, cc)
split_push [] x (b ∷ []) y after e = let z : ◌≡◌ {A = ℕ} 0 1 = cc in absurd (omega arith)
split_push [] x (b ∷ c ∷ before) y after e = let z : ◌≡◌ {A = ℕ} 0 1 = cc in absurd (omega arith)
split_push (first ∷ xs) x [] y after e = let same : first ≡ y = cc in inr (xs, ap (λ z. z ∷ xs) same)
split_push (first ∷ xs) x (b ∷ before) y after e =
    let head : first ≡ b = cc in
    let rest : xs ++ x ∷ [] ≡ before ++ y ∷ after = cc in
    ⊎_elim
    (λ (h : (before ≡ xs) × (y ≡ x)). let same : b ∷ before ≡ first ∷ xs = cc in inl (same, h.1))
    (λ (h : (front : List _) × (xs ≡ before ++ y ∷ front)). inr (h.0, ap (λ z. z ∷ xs) head ∙ ap (λ l. b ∷ l) h.1))
    (split_push xs x before y after rest)

pub none_before : {A : Type 0} (Accepts : List A → A → Type 0) → Each Accepts []
none_before Accepts [] after x e = let z : ◌≡◌ {A = ℕ} 0 1 = cc in absurd (omega arith)
none_before Accepts (first ∷ before) after x e = let z : ◌≡◌ {A = ℕ} 0 1 = cc in absurd (omega arith)

pub each_push : {A : Type 0} (Accepts : List A → A → Type 0) (xs : List A) (x : A) → Each Accepts xs → Accepts xs x → Each Accepts (xs ++ x ∷ [])
each_push Accepts xs x each here = λ before after y e.
    ⊎_elim
    (λ (h : (before ≡ xs) × (y ≡ x)). subst (λ l. Accepts l y) (sym h.0) (subst (Accepts xs) (sym h.1) here))
    (λ (h : (front : List _) × (xs ≡ before ++ y ∷ front)). each before h.0 y h.1)
    (split_push xs x before y after e)

-- what stays so with one more that is accepted holds of all
module _ {A : Type 0} (Accepts : List A → A → Type 0) (Holds : List A → Type 0) (more : (xs : List A) (x : A) → Accepts xs x → Holds xs → Holds (xs ++ x ∷ [])) where
  from : (before xs : List A) → Each Accepts (before ++ xs) → Holds before → Holds (before ++ xs)
  from before [] each h = subst Holds (sym (append-nil before)) h
  from before (x ∷ xs) each h =
      let same : (before ++ x ∷ []) ++ xs ≡ before ++ x ∷ xs = append_assoc before (x ∷ []) xs in
      subst Holds same (from (before ++ x ∷ []) xs (subst (Each Accepts) (sym same) each) (more before x (each before xs x refl) h))

  pub by_each : (xs : List A) → Each Accepts xs → Holds [] → Holds xs
  by_each xs each h = from [] xs each h
