-- What follows of a list and its memory.
use Rattle.std.proofs.Common.{◌≡◌, ◌+◌, ◌<◌, [], ◌∷◌, ◌++◌, length, drop, Ok, Err, Result, sym, refl, ap, ◌∙◌, arith, append_assoc, length-append, length-set, drop-set-lt}
use Rattle.std.proofs.lemmas.List.{length_push}
use Rattle.terms.specs.declared.fault.Fault.{Fault}
use Rattle.lists.specs.declared.list.List.{List}
use Rattle.lists.specs.Lists.{lender, memory, items, Appended, Appends, Extended}
use mathlib.Core.List as L

-- an append is accepted where a place is free
pub appended : {X : Type 0} (x : X) (s t : List X) (r : Result (Unit {0}) Fault) → Appends x s t r → length (items s) < length (memory s) → Appended x s t
appended x s t (Ok _) h f = h
appended x s t (Err _) h f = absurd (omega (arith, h.0))

pub append_ok : {X : Type 0} (x : X) (s t : List X) (r : Result (Unit {0}) Fault) → Appends x s t r → length (items s) < length (memory s) → r ≡ Ok tt
append_ok x s t (Ok _) h f = refl
append_ok x s t (Err _) h f = absurd (omega (arith, h.0))

none_behind : {X : Type 0} (xs : L.List X) → xs ++ [] ≡ xs
none_behind [] = refl
none_behind (x ∷ xs) = ap (λ l. x ∷ l) (none_behind xs)

-- no record more
pub extended_none : {X : Type 0} (s t : List X) → t ≡ s → Extended [] s t
extended_none s t e = record {
  lender = ap (λ l. lender l) e;
  items = ap (λ l. items l) e ∙ sym (none_behind (items s));
  places = ap (λ l. length (memory l)) e;
  past = ap (λ l. drop (length (items t)) (memory l)) e;
}

-- one record, and then others
pub extended_more : {X : Type 0} (x : X) (xs : L.List X) (s m t : List X) → lender m ≡ lender s → Appended x s m → Extended xs m t → Extended (x ∷ xs) s t
extended_more x xs s m t name a e =
    let count : length (items t) ≡ (length (items s) + 1) + length xs = ap length e.items ∙ length-append (items m) xs ∙ ap (λ n. n + length xs) (ap length a.items ∙ length_push (items s) x) in
    let here : length (items s) < length (items t) = omega (arith, count) in
    record {
      lender = e.lender ∙ name;
      items = e.items ∙ ap (λ l. l ++ xs) a.items ∙ append_assoc (items s) (x ∷ []) xs;
      places = e.places ∙ ap length a.memory ∙ length-set (memory s) (length (items s)) x;
      past = e.past ∙ ap (drop (length (items t))) a.memory ∙ drop-set-lt (length (items t)) (memory s) (length (items s)) x here;
    }
