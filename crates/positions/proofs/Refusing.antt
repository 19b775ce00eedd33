-- The first fault, one number more at a time. Assumes nothing.
use Rattle.std.proofs.Common.{◌≡◌, ℕ, zero, suc, ◌+◌, ◌-◌, ◌<◌, ◌≤◌, Some, None, Ok, Err, Option, refl, ap, ◌∙◌, subst, ⊎_elim, add-one, arith}
use Rattle.std.proofs.lemmas.Bool.{cases_lt}
use Rattle.terms.specs.Questions.{or_else}
use Rattle.terms.specs.Refusals.{answer_at, refused_at}
use Rattle.terms.specs.declared.fault.Fault.{Fault}
use Rattle.terms.specs.declared.refusal.Refusal.{Refusal}
use Rattle.positions.specs.Questions.{first_below}

pub first_none : (f : ℕ → Option Fault) → first_below 0 f ≡ None
unfolding first_below
first_none f = refl

first_suc : (n : ℕ) (f : ℕ → Option Fault) → first_below (suc n) f ≡ or_else (first_below n f) (f n)
unfolding first_below
first_suc n f = refl

pub first_more : (n : ℕ) (f : ℕ → Option Fault) → first_below n f ≡ None → first_below (n + 1) f ≡ f n
first_more n f e = ap (λ (k : ℕ). first_below k f) (add-one n) ∙ first_suc n f ∙ ap (λ (o : Option Fault). or_else o (f n)) e

-- the first fault below n is that below any number from n on
first_stays : (n k : ℕ) (f : ℕ → Option Fault) (x : Fault) → first_below n f ≡ Some x → first_below (k + n) f ≡ Some x
first_stays n zero f x e = subst (λ (j : ℕ). first_below j f ≡ Some x) (omega arith) e
first_stays n (suc k) f x e =
    subst (λ (j : ℕ). first_below j f ≡ Some x) (omega arith)
    (first_suc (k + n) f ∙ ap (λ (o : Option Fault). or_else o (f (k + n))) (first_stays n k f x e))

pub first_found : (n m : ℕ) (f : ℕ → Option Fault) (x : Fault) → n < m → first_below n f ≡ None → f n ≡ Some x → first_below m f ≡ Some x
first_found n m f x l e h =
    subst (λ (j : ℕ). first_below j f ≡ Some x) (omega arith) (first_stays (n + 1) (m - (n + 1)) f x (first_more n f e ∙ h))

-- what an answer says of its questions
pub answered_err : {A : Type 0} (place : ℕ) (v : A) (o : Option Refusal) (x : Fault) → Err x ≡ answer_at place v o → refused_at place o ≡ Some x
answered_err place v None x e = absurd (let z : ◌≡◌ {A = ℕ} 0 1 = cc in omega arith)
answered_err place v (Some y) x e = cc

pub answered_ok : {A : Type 0} (place : ℕ) (v : A) (o : Option Refusal) (a : A) → Ok a ≡ answer_at place v o → (refused_at place o ≡ None) × (a ≡ v)
answered_ok place v None a e = (refl, cc)
answered_ok place v (Some y) a e = absurd (let z : ◌≡◌ {A = ℕ} 0 1 = cc in omega arith)

neither : (o p : Option Fault) → or_else o p ≡ None → (o ≡ None) × (p ≡ None)
neither None p e = (refl, e)
neither (Some x) p e = absurd (let z : ◌≡◌ {A = ℕ} 0 1 = cc in omega arith)

-- where there is no first fault there is none
pub all_pass : (n : ℕ) (f : ℕ → Option Fault) → first_below n f ≡ None → (s : ℕ) → s < n → f s ≡ None
unfolding first_below
all_pass zero f e s l = absurd (omega arith)
all_pass (suc n) f e s l =
    let both = neither (first_below n f) (f n) e in
    ⊎_elim (λ (h : s < n). all_pass n f both.0 s h) (λ (h : n ≤ s). let same : n ≡ s = omega arith in subst (λ (k : ℕ). f k ≡ None) same both.1) (cases_lt s n)
