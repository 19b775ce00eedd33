-- Numbers within their limits, and a table of them of which one moves.
use Rattle.std.proofs.Common.{◌≡◌, ℕ, ◌<◌, true, eqb, ◌≢◌, List, length, get_or, set, replicate, ℤ, pos, ◌+ℤ◌, ◌-ℤ◌, nat_abs, sym, refl, ap, ◌∙◌, subst, ⊎_elim, arith, get_or-set_other, get_or-set_same}
use lib.ListN.{length-replicate}
use Rattle.std.proofs.lemmas.Int.{ints}
use Rattle.std.proofs.lemmas.List.{get_or-replicate, get_or_past}
use Rattle.std.proofs.lemmas.Bool.{cases_lt, cond-true, cond-false, eq-eqb, ne_eqb, cases_eq, leb-true, le-leb}
use Rattle.terms.specs.Limits.{net_limit, quantity_limit}
use Rattle.books.specs.Books.{Within, within}
use Rattle.books.proofs.Accounts.{shifted}

pub within_yes : (n : ℕ) (z : ℤ) → within n z ≡ true → Within n z
within_yes n z e = leb-true (nat_abs z) n e

pub yes_within : (n : ℕ) (z : ℤ) → Within n z → within n z ≡ true
yes_within n z h = le-leb (nat_abs z) n h

-- the security's own net moves
pub shifted_same : (nets : ℕ → ℤ) (security : ℕ) (quantity : ℤ) → shifted nets security quantity security ≡ nets security +ℤ quantity
shifted_same nets security quantity = cond-true (eqb security security) _ _ (eq-eqb security security refl)

-- and no other
pub shifted_other : (nets : ℕ → ℤ) (security : ℕ) (quantity : ℤ) (s : ℕ) → (s ≡ security → ⊥) → shifted nets security quantity s ≡ nets s
shifted_other nets security quantity s ne = cond-false (eqb s security) _ _ (ne_eqb s security ne)

-- what holds of every net before, and of the new one, holds of every net after
pub shifted_all : (P : ℤ → Type 0) (nets : ℕ → ℤ) (security : ℕ) (quantity : ℤ) → ((s : ℕ) → P (nets s)) → P (nets security +ℤ quantity) → (s : ℕ) → P (shifted nets security quantity s)
shifted_all P nets security quantity each new s =
    ⊎_elim
    (λ e. subst P (sym (ap (shifted nets security quantity) e ∙ shifted_same nets security quantity)) new)
    (λ ne. subst P (sym (shifted_other nets security quantity s ne)) (each s))
    (cases_eq s security)

-- one entry of a table moves as a booking moves a net
pub set_shifts : (xs : List ℤ) (security : ℕ) (quantity : ℤ) → security < length xs → (s : ℕ) → get_or (set xs security (get_or xs security (pos 0) +ℤ quantity)) s (pos 0) ≡ shifted (λ t. get_or xs t (pos 0)) security quantity s
set_shifts xs security quantity within s =
    let nets : ℕ → ℤ = λ t. get_or xs t (pos 0) in
    ⊎_elim
    (λ e. ap (λ t. get_or (set xs security (get_or xs security (pos 0) +ℤ quantity)) t (pos 0)) e ∙ rw get_or-set_same refl ∙ sym (ap (shifted nets security quantity) e ∙ shifted_same nets security quantity))
    (λ (ne : s ≢ security). rw get_or-set_other refl ∙ sym (shifted_other nets security quantity s ne))
    (cases_eq s security)

-- two nets lie no further apart than a booking may go
pub apart : (a b : ℤ) → Within net_limit a → Within net_limit b → Within quantity_limit (a -ℤ b)
apart a b h k = omega (arith, ints)

-- a table of zeros has 0 everywhere
pub zeros : (n s : ℕ) → get_or (replicate n (pos 0)) s (pos 0) ≡ pos 0
zeros n s =
    ⊎_elim
    (λ h. get_or-replicate n s (pos 0) (pos 0) h)
    (λ h. get_or_past (replicate n (pos 0)) s (pos 0) (omega (arith, length-replicate n (pos 0))))
    (cases_lt s n)
