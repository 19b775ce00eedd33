-- What a list over memory handed in means, and what its calls do to that memory. Assumes nothing.
use Rattle.std.specs.Prelude.{◌≡◌, ℕ, ◌<◌, ◌≤◌, [], ◌∷◌, ◌++◌, drop, length, take, Ok, Err, Result, slice_index_or, slice_set}
use mathlib.Core.List as L
use Rattle.terms.specs.declared.fault.Fault.{Fault}
use Rattle.terms.specs.declared.refusal.Refusal.TheVariants.{NoSuchPlace}
use Rattle.terms.specs.Refusals.{fault_at}
use Rattle.lists.specs.declared.list.List.{List}

-- all places of the memory that a list lies in, filled or free
abbrev pub memory : {X : Type 0} → List X → L.List X
memory l = l.places.now

-- the name under which the logic knows that memory: while it stays the same, the lender gets back what the list had last
abbrev pub lender : {X : Type 0} → List X → ℕ
lender l = l.places.ghost_name

-- what a list means: the records appended since it was opened or cleared, the oldest first
abbrev pub items : {X : Type 0} → List X → L.List X
items l = take l.len (memory l)

-- refusal 6, of a list
abbrev pub no_such_place : Fault
no_such_place = fault_at 0 NoSuchPlace

-- t is s with no record, over the same memory
pub record Cleared {X : Type 0} (s t : List X) : Type 0 where
  pub memory : memory t ≡ memory s
  pub items : items t ≡ []

-- t is s with one record more: x stands in the first place that was free, and no other place of the memory changes
pub record Appended {X : Type 0} (x : X) (s t : List X) : Type 0 where
  pub free : length (items s) < length (memory s)
  pub memory : memory t ≡ slice_set (memory s) (length (items s)) x
  pub items : items t ≡ items s ++ x ∷ []

-- t is s with the records xs more: they stand in the first places that were free, in their order, and no other place changes
pub record Extended {X : Type 0} (xs : L.List X) (s t : List X) : Type 0 where
  pub lender : lender t ≡ lender s
  pub places : length (memory t) ≡ length (memory s)
  pub past : drop (length (items t)) (memory t) ≡ drop (length (items t)) (memory s)
  pub items : items t ≡ items s ++ xs

-- What an append does to a list: refused, it leaves the list and its memory as they were.
abbrev pub Appends : {X : Type 0} → X → List X → List X → Result (Unit {0}) Fault → Type 0
Appends x s t (Ok _) = Appended x s t
Appends x s t (Err e) = (length (memory s) ≤ length (items s)) × (t ≡ s) × (e ≡ no_such_place)

-- What a read by place answers, of a list whose records are xs.
abbrev pub Reads : {X : Type 0} → L.List X → ℕ → Result X Fault → Type 0
Reads xs at (Ok x) = (at < length xs) × (x ≡ slice_index_or xs at x)
Reads xs at (Err e) = (length xs ≤ at) × (e ≡ no_such_place)
