-- What a deposit tells, and what it leaves in the memory handed in. Assumes nothing.
use Rattle.std.specs.Prelude.{◌≡◌, ℕ, ◌<◌, false, ◌&&◌, ◌++◌, map, length, get_or, take, drop, ℤ, pos, ◌≤ℤ◌, None, Ok, Err, Option, Result, nat_le, slice_index_or}
use mathlib.Core.List as L
use Rattle.terms.specs.Limits.{class_count, pair_limit}
use Rattle.terms.specs.Outcomes.{Outcome}
use Rattle.terms.specs.Questions.{ask}
use Rattle.terms.specs.Refusals.{fault_at}
use Rattle.terms.specs.declared.fault.Fault.{Fault}
use Rattle.terms.specs.declared.refusal.Refusal.TheVariants.{TooFewPlaces}
use Rattle.lists.specs.declared.list.List.{List}
use Rattle.lists.specs.Lists.{items, memory}
use Rattle.rules.specs.Rows.{Rows}
use Rattle.rules.specs.Margin.{TwoSums, rounded, net_in, net_value, leftovers, DRR_from, DRS_from, DSWK_from, KSPK_from, DOLR, DOLR_from, DSPAN_from}
use Rattle.rules.specs.Held.{Exposure, exposure_of, classes_in, pairs_in}
use Rattle.rules.specs.Laws.{Accurate, Matched}
use Rattle.positions.specs.Questions.{portfolio_fault}
use Rattle.deposits.specs.declared.records.ClassMargin.{ClassMargin}
use Rattle.deposits.specs.declared.records.Match.{Match}
use Rattle.deposits.specs.declared.records.Summary.{Summary}
use Rattle.deposits.specs.Told.{none, told_by}

-- The question put to the memory of a deposit: are there places for all classes, and is there a match list with memory for the most
-- pairs of a sheet? Then comes the next.
abbrev pub ask_room : ℕ → ℕ → Option Fault → Option Fault
ask_room places room next = ask (nat_le class_count places && nat_le pair_limit room) (fault_at 0 TooFewPlaces) next

-- The questions put to a deposit: the one of memory, and those put to each held security.
abbrev pub deposit_fault : Rows → (ℕ → ℤ) → ℕ → ℕ → Option Fault
deposit_fault rows nets places room = ask_room places room (portfolio_fault rows nets)

-- ---- what is told of the sums of the classes, whoever they are of

-- w is the record of class c
pub record Margin (rows : Rows) (exposure : Exposure) (c : ℕ) (w : ClassMargin) : Type 0 where
  pub bought : w.bought.units ≡ exposure.sums.bought c
  pub sold : w.sold.units ≡ exposure.sums.sold c
  pub leftover : w.leftover.net ≡ leftovers (net_in exposure.sums) rows.pairs c
  pub held : w.held ≡ exposure.held c
  pub drr : w.drr.grosz ≡ DRR_from rounded rows exposure.sums c
  pub drs : w.drs.grosz ≡ DRS_from rounded rows exposure.sums c
  pub dswk : w.dswk.grosz ≡ DSWK_from rounded rows exposure.sums c
  pub kspk : w.kspk.grosz ≡ KSPK_from rounded rows exposure.sums c
  pub dolr : pos w.dolr.grosz ≡ DOLR_from rounded rows exposure.sums c
  -- zeros where the class is not held
  pub idle : exposure.held c ≡ false → w ≡ none

-- s is the summary
pub record SummedUp (rows : Rows) (exposure : Exposure) (s : Summary) : Type 0 where
  pub dspan : pos s.dspan.grosz ≡ DSPAN_from rounded rows exposure.sums
  pub classes : s.classes ≡ classes_in exposure.held
  pub securities : s.securities ≡ exposure.securities
  pub pairs : s.pairs ≡ pairs_in exposure.held rows.pairs

-- the class places cs turn into ds and the match list l into m: one record a class, one match a pair, and no other place changes
pub record Deposited (rows : Rows) (exposure : Exposure) (cs : L.List ClassMargin) (l : List Match) (ds : L.List ClassMargin) (m : List Match) (s : Summary) : Type 0 where
  pub classes : (c : ℕ) → c < class_count → Margin rows exposure c (slice_index_or ds c none)
  pub past : drop class_count ds ≡ drop class_count cs
  pub items : items m ≡ told_by (net_in exposure.sums) rows.pairs
  pub memory : memory m ≡ told_by (net_in exposure.sums) rows.pairs ++ drop (length rows.pairs) (memory l)
  pub summary : SummedUp rows exposure s

-- the leftovers that are told, by class, and the matches
abbrev pub left_told : L.List ClassMargin → ℕ → ℤ
left_told ds c = (get_or (take class_count ds) c none).leftover.net

abbrev pub matched_told : List Match → L.List ℕ
matched_told m = map (λ x. x.matched.units) (items m)

-- what is told adds up: matches and leftovers make up the net values, and no class owes less than nothing
pub record Balanced (rows : Rows) (sums : TwoSums) (ds : L.List ClassMargin) (m : List Match) : Type 0 where
  pub matched : Matched (net_in sums) rows.pairs (matched_told m) (left_told ds)
  pub owed : (c : ℕ) → c < class_count → (pos (get_or ds c none).dolr.grosz ≡ DOLR_from rounded rows sums c) × (pos 0 ≤ℤ DOLR_from rounded rows sums c)

-- What is told of classes with these sums, where there is room for it; else nothing changes.
abbrev pub Settles : Rows → Exposure → L.List ClassMargin → List Match → L.List ClassMargin → List Match → Result Summary Fault → Type 0
Settles rows exposure cs l ds m =
    Outcome (ask_room (length cs) (length (memory l)) None) (λ s. Deposited rows exposure cs l ds m s × Balanced rows exposure.sums ds m) ((ds ≡ cs) × (m ≡ l))

-- ---- what is told of the nets of a portfolio

-- What a deposit does: the first question answered no decides, and then nothing changes.
abbrev pub Deposits : Rows → (ℕ → ℤ) → L.List ClassMargin → List Match → L.List ClassMargin → List Match → Result Summary Fault → Type 0
Deposits rows nets cs l ds m =
    Outcome (deposit_fault rows nets (length cs) (length (memory l))) (Deposited rows (exposure_of rounded rows nets) cs l ds m) ((ds ≡ cs) × (m ≡ l))

-- What holds of every accepted deposit: it is as near to the exact margin as the roundings allow, its matches and leftovers
-- make up the net values, and no class owes less than nothing.
pub record Upheld (rows : Rows) (nets : ℕ → ℤ) (ds : L.List ClassMargin) (m : List Match) (s : Summary) : Type 0 where
  pub accurate : Accurate rows nets (pos s.dspan.grosz)
  pub matched : Matched (net_value rounded rows nets) rows.pairs (matched_told m) (left_told ds)
  pub owed : (c : ℕ) → c < class_count → (pos (get_or ds c none).dolr.grosz ≡ DOLR rounded rows nets c) × (pos 0 ≤ℤ DOLR rounded rows nets c)

abbrev pub Upholds : Rows → (ℕ → ℤ) → L.List ClassMargin → List Match → Result Summary Fault → Type 0
Upholds rows nets ds m (Ok s) = Upheld rows nets ds m s
Upholds rows nets ds m (Err x) = Unit {0}
