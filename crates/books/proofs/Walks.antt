-- What a walk by rising security has done so far.
use Rattle.std.proofs.Common.{◌≡◌, ℕ, ◌+◌, ◌≤◌, cond, ltb, sym, ap, ◌∙◌, ⊎_elim, arith}
use Rattle.std.proofs.lemmas.Bool.{cases_lt, cases_eq, cond-true, cond-false, lt-ltb, le-ltb}
use Rattle.books.specs.Books.{Holding}

-- f below i, and g from there on
abbrev pub upto : ℕ → (ℕ → Holding) → (ℕ → Holding) → ℕ → Holding
upto i f g s = cond (ltb s i) (f s) (g s)

module _ (f g : ℕ → Holding) where
  pub upto_none : (s : ℕ) → upto 0 f g s ≡ g s
  upto_none s = cond-false (ltb s 0) (f s) (g s) (le-ltb s 0 (omega arith))

  pub upto_at : (i : ℕ) → upto i f g i ≡ g i
  upto_at i = cond-false (ltb i i) (f i) (g i) (le-ltb i i (omega arith))

  -- one step of a walk: at i there is f, and elsewhere nothing has changed
  pub upto_next : (i : ℕ) (h : ℕ → Holding) → ((s : ℕ) → (s ≡ i → ⊥) → h s ≡ upto i f g s) → h i ≡ f i → (s : ℕ) → h s ≡ upto (i + 1) f g s
  upto_next i h others here s =
      ⊎_elim
      (λ e. ap h e ∙ here ∙ ap f (sym e) ∙ sym (cond-true (ltb s (i + 1)) (f s) (g s) (lt-ltb s (i + 1) (omega arith))))
      (λ ne. others s ne ∙ ⊎_elim
      (λ lt. cond-true (ltb s i) (f s) (g s) (lt-ltb s i lt) ∙ sym (cond-true (ltb s (i + 1)) (f s) (g s) (lt-ltb s (i + 1) (omega arith))))
      (λ ge. cond-false (ltb s i) (f s) (g s) (le-ltb s i ge) ∙ sym (cond-false (ltb s (i + 1)) (f s) (g s) (le-ltb s (i + 1) (omega (arith, ne)))))
      (cases_lt s i))
      (cases_eq s i)

  -- the walk is over where f and g agree from there on
  pub upto_all : (i : ℕ) → ((s : ℕ) → i ≤ s → f s ≡ g s) → (s : ℕ) → upto i f g s ≡ f s
  upto_all i agree s =
      ⊎_elim
      (λ lt. cond-true (ltb s i) (f s) (g s) (lt-ltb s i lt))
      (λ ge. cond-false (ltb s i) (f s) (g s) (le-ltb s i ge) ∙ sym (agree s ge))
      (cases_lt s i)
