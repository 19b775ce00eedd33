-- The sums and counts over the positions, one position more at a time, and that they stay small. Assumes nothing.
use Rattle.std.proofs.Common.{◌≡◌, ℕ, zero, suc, ◌+◌, ◌*◌, ◌≤◌, Bool, true, false, cond, eqb, List, length, get_or, take, sym, ap, ◌∙◌, subst, add-one, arith}
use Rattle.std.specs.Prelude.{count_by, sum_by}
use Rattle.std.proofs.lemmas.List.Sums.{sum_by_more}
use Rattle.std.proofs.lemmas.List.{take_all}
use Rattle.terms.specs.declared.choice.Side.{Side}
use Rattle.terms.specs.declared.choice.Side.TheVariants.{Bought, Sold}
use Rattle.rules.specs.Laws.{value_limit}
use Rattle.terms.specs.Sums.{sum_below, count_below}
use Rattle.rules.proofs.Sums.{sum_add, sum_const, sum_le, sum_more, sum_none}
use Rattle.positions.specs.declared.position.Valuation.{Valuation}
use Rattle.positions.specs.declared.position.Valuation.TheVariants.{Flat, Valued, Refused}
use Rattle.positions.specs.Values.{as_bought, as_sold, bought_share, sold_share, bought_in, sold_in, worth_of, Small}

pub bought_more : (all : List Valuation) (c n : ℕ) → bought_in all c (n + 1) ≡ bought_in all c n + bought_share c (get_or all n Flat)
bought_more all c n = sum_more n (λ s. bought_share c (get_or all s Flat))

pub sold_more : (all : List Valuation) (c n : ℕ) → sold_in all c (n + 1) ≡ sold_in all c n + sold_share c (get_or all n Flat)
sold_more all c n = sum_more n (λ s. sold_share c (get_or all s Flat))

sides_within : (t : Bool) (d : Side) (v : ℕ) → cond t (as_bought d v) 0 + cond t (as_sold d v) 0 ≤ v
sides_within true Bought v = omega arith
sides_within true Sold v = omega arith
sides_within false d v = omega arith

shares_within : (c : ℕ) (p : Valuation) → bought_share c p + sold_share c p ≤ worth_of p
shares_within c Flat = omega arith
shares_within c (Refused refusal) = omega arith
shares_within c (Valued p) = sides_within (eqb p.class c) p.side p.value.units

pub sums_small : (all : List Valuation) → Small all → (c n : ℕ) → bought_in all c n + sold_in all c n ≤ n * value_limit
sums_small all small c n =
    let b : ℕ → ℕ = λ s. bought_share c (get_or all s Flat) in
    let d : ℕ → ℕ = λ s. sold_share c (get_or all s Flat) in
    omega (
      arith,
      sum_add n b d,
      sum_const n value_limit,
      sum_le n (λ s. b s + d s) (λ s. value_limit) (λ s l. omega (arith, shares_within c (get_or all s Flat), small s)),
    )

-- ---- a sum over a list, by its places

places_below : {X : Type 0} (f : X → ℕ) (xs : List X) (d : X) (n : ℕ) → n ≤ length xs → sum_by f (take n xs) ≡ sum_below n (λ s. f (get_or xs s d))
places_below f xs d zero l = sym (sum_none (λ s. f (get_or xs s d)))
places_below f xs d (suc n) l =
    subst (λ (k : ℕ). sum_by f (take k xs) ≡ sum_below k (λ s. f (get_or xs s d))) (add-one n)
    (sum_by_more f xs n d (omega arith) ∙ ap (λ (k : ℕ). k + f (get_or xs n d)) (places_below f xs d n (omega arith)) ∙ sym (sum_more n (λ s. f (get_or xs s d))))

pub sum_by_places : {X : Type 0} (f : X → ℕ) (xs : List X) (d : X) (n : ℕ) → length xs ≡ n → sum_by f xs ≡ sum_below n (λ s. f (get_or xs s d))
sum_by_places f xs d n e = ap (sum_by f) (sym (take_all n xs (omega arith))) ∙ places_below f xs d n (omega arith)

pub count_by_places : {X : Type 0} (p : X → Bool) (xs : List X) (d : X) (n : ℕ) → length xs ≡ n → count_by p xs ≡ count_below n (λ s. p (get_or xs s d))
count_by_places p xs d n e = sum_by_places (λ x. cond (p x) 1 0) xs d n e
