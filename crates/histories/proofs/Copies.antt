-- Matches copied into the places of a telling. Assumes nothing.
use Rattle.std.proofs.Common.{◌≡◌, ℕ, zero, suc, ◌-◌, ◌<◌, ◌≤◌, List, [], ◌∷◌, ◌++◌, map, length, get_or, replicate, Some, None, Option, sym, refl, ap, ◌∙◌, arith}
use Rattle.std.proofs.lemmas.List.{ext_get_or, length-append, length-map, length-replicate}
use Rattle.std.specs.List.{slice_get}
use Rattle.std.specs.Option.{some_prefix}
use Rattle.terms.specs.Limits.{pair_limit}
use Rattle.deposits.specs.declared.records.Match.{Match}
use Rattle.histories.specs.Tellings.{padded}

length_padded : (ms : List Match) → length ms ≤ pair_limit → length (padded ms) ≡ pair_limit
length_padded ms h = simp (length-append, length-map, length-replicate) (omega arith)

none_at : (n k : ℕ) → ◌≡◌ {A = Option Match} (get_or (replicate n None) k None) None
none_at zero k = refl
none_at (suc n) zero = refl
none_at (suc n) (suc k) = none_at n k

-- a place has a match of the list, or none
somes_at : (ms : List Match) (n k : ℕ) → get_or (map Some ms ++ replicate n None) k None ≡ slice_get ms k
somes_at [] n k = none_at n k
somes_at (m ∷ ms) n zero = refl
somes_at (m ∷ ms) n (suc k) = somes_at ms n k

pub copied : (xs : List (Option Match)) (ms : List Match) → length ms ≤ pair_limit → length xs ≡ pair_limit → ((k : ℕ) → k < pair_limit → get_or xs k None ≡ slice_get ms k) → xs ≡ padded ms
copied xs ms h e same =
    let long = length_padded ms h in
    ext_get_or None xs (padded ms) (omega (arith, e, long))
    (λ k l. let within : k < pair_limit = omega (arith, e, l) in same k within ∙ sym (somes_at ms (pair_limit - length ms) k))

-- the matches are the front of their places
front_of : (ms : List Match) (n : ℕ) → some_prefix (map Some ms ++ replicate n None) ≡ ms
front_of [] zero = refl
front_of [] (suc n) = refl
front_of (m ∷ ms) n = ap (λ l. m ∷ l) (front_of ms n)

pub front : (ms : List Match) → some_prefix (padded ms) ≡ ms
front ms = front_of ms (pair_limit - length ms)
