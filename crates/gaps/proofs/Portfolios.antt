-- What is told of a measure is a function of the portfolio. Assumes nothing.
use Rattle.std.proofs.lemmas.List.{nil_from_length}
use Rattle.std.proofs.Common.{◌≡◌, ℕ, zero, suc, ◌+◌, ◌<◌, ◌≤◌, ◌&&◌, List as L, [], ◌∷◌, ◌++◌, length, drop, ℤ, unsigned_abs, Some, None, Ok, Err, Result, nat_le, sym, refl, ap, subst, ◌∙◌, arith, length-drop}
use Rattle.std.proofs.Output.{displays_on_ok_of_eq}
use Rattle.std.specs.Fmt.{WritesOnOk}
use Rattle.std.specs.Prelude.{slice_index_or}
use Rattle.std.specs.declared.fmt.Error.{Error}
use Rattle.std.specs.declared.fmt.Formatter.{Formatter}
use Rattle.terms.specs.Limits.{class_count, pair_limit}
use Rattle.terms.specs.Questions.{ask}
use Rattle.terms.specs.Refusals.{fault_at}
use Rattle.terms.specs.declared.fault.Fault.{Fault}
use Rattle.terms.specs.declared.refusal.Refusal.TheVariants.{TooFewPlaces}
use Rattle.lists.specs.declared.list.List.{List}
use Rattle.lists.specs.Lists.{items, memory}
use Rattle.rules.specs.Rows.{Rows}
use Rattle.rules.specs.Margin.{net_value, rounded}
use Rattle.rules.specs.Held.{exposure_of}
use Rattle.positions.specs.Questions.{portfolio_fault}
use Rattle.deposits.specs.declared.records.ClassMargin.{ClassMargin}
use Rattle.deposits.specs.declared.records.Match.{Match}
use Rattle.deposits.specs.declared.records.Summary.{Summary}
use Rattle.deposits.specs.Deposits.{Margin, SummedUp, deposit_fault}
use Rattle.deposits.specs.Told.{none, told_by}
use Rattle.measures.specs.declared.record.Measure.{Measure}
use Rattle.measures.specs.Measures.{Measured, Measures, gap_of}
use Rattle.gaps.specs.Lines.{class_lines, classes_lines, deposit_refused, gap_lines, margin_lines, matches_lines, measure_lines}
use Rattle.gaps.specs.Reports.{margin_of, margins_from, measure_of, measured_lines, portfolio_lines, summary_of, unless_refused}

-- ---- a class

same_margin : (rows : Rows) (nets : ℕ → ℤ) (c : ℕ) (w : ClassMargin) → Margin rows (exposure_of rounded rows nets) c w → w ≡ margin_of rows nets c
same_margin rows nets c w is j = record {
  bought = record { units = is.bought j };
  sold = record { units = is.sold j };
  leftover = record { net = is.leftover j };
  held = is.held j;
  drr = record { grosz = is.drr j };
  drs = record { grosz = is.drs j };
  dswk = record { grosz = is.dswk j };
  kspk = record { grosz = is.kspk j };
  dolr = record { grosz = unsigned_abs (is.dolr j) };
}

-- these are the classes of a portfolio, from c on; where there are fewer, the others are not held
abbrev Classes : Rows → (ℕ → ℤ) → ℕ → ℕ → L ClassMargin → Type 0
Classes rows nets c n ds = (k : ℕ) → k < n → Margin rows (exposure_of rounded rows nets) (c + k) (slice_index_or ds k none)

next_class : (rows : Rows) (nets : ℕ → ℤ) (c k : ℕ) (w : ClassMargin) → Margin rows (exposure_of rounded rows nets) (c + suc k) w → Margin rows (exposure_of rounded rows nets) (c + 1 + k) w
next_class rows nets c k w is = let on : c + suc k ≡ c + 1 + k = omega arith in subst (λ i. Margin rows (exposure_of rounded rows nets) i w) on is

first_class : (rows : Rows) (nets : ℕ → ℤ) (c : ℕ) (w : ClassMargin) → Margin rows (exposure_of rounded rows nets) (c + 0) w → Margin rows (exposure_of rounded rows nets) c w
first_class rows nets c w is = let here : c + 0 ≡ c = omega arith in subst (λ i. Margin rows (exposure_of rounded rows nets) i w) here is

classes_told : (rows : Rows) (nets : ℕ → ℤ) (n c : ℕ) (ds : L ClassMargin) → length ds ≤ n → Classes rows nets c n ds → classes_lines c ds ≡ classes_lines c (margins_from rows nets c n)
unfolding margins_from
classes_told rows nets zero c [] few all = refl
classes_told rows nets zero c (d ∷ ds) few all = absurd (omega arith)
classes_told rows nets (suc n) c [] few all =
    let first = same_margin rows nets c none (first_class rows nets c none (all 0 (omega arith))) in
    classes_told rows nets n (c + 1) [] (omega arith) (λ k below. next_class rows nets c k none (all (suc k) (omega arith)))
    ∙ ap (λ w. class_lines c w ++ classes_lines (c + 1) (margins_from rows nets (c + 1) n)) first
classes_told rows nets (suc n) c (d ∷ ds) few all =
    let first = same_margin rows nets c d (first_class rows nets c d (all 0 (omega arith))) in
    ap (λ t. class_lines c d ++ t) (classes_told rows nets n (c + 1) ds (omega arith) (λ k below. next_class rows nets c k (slice_index_or ds k none) (all (suc k) (omega arith))))
    ∙ ap (λ w. class_lines c w ++ classes_lines (c + 1) (margins_from rows nets (c + 1) n)) first

-- ---- a measure

same_summary : (rows : Rows) (nets : ℕ → ℤ) (s : Summary) → SummedUp rows (exposure_of rounded rows nets) s → s ≡ summary_of rows nets
same_summary rows nets s is j = record {
  dspan = record { grosz = unsigned_abs (is.dspan j) };
  classes = is.classes j;
  securities = is.securities j;
  pairs = is.pairs j;
}

same_measure : (rows : Rows) (nets : ℕ → ℤ) (x : Measure) → SummedUp rows (exposure_of rounded rows nets) x.summary → Measured rows nets x → x ≡ measure_of rows nets
same_measure rows nets x sums is =
    let summary = same_summary rows nets x.summary sums in
    let gap : x.gap ≡ (measure_of rows nets).gap = is.gap ∙ ap (λ s. gap_of s.dspan (measure_of rows nets).exact) summary in
    λ j. record { summary = summary j; exact = is.margin j; gap = gap j; bound = is.bound j }

-- ---- a portfolio

-- there is room for its answer
places : (rows : Rows) (nets : ℕ → ℤ) (wide room : ℕ) → wide ≡ class_count → room ≡ pair_limit → deposit_fault rows nets wide room ≡ portfolio_fault rows nets
places rows nets wide room w r =
    ap (λ k. ask (nat_le class_count k && nat_le pair_limit room) (fault_at 0 TooFewPlaces) (portfolio_fault rows nets)) w
    ∙ ap (λ k. ask (nat_le pair_limit k) (fault_at 0 TooFewPlaces) (portfolio_fault rows nets)) r

measured_told : (rows : Rows) (nets : ℕ → ℤ) (cs ds : L ClassMargin) (l m : List Match) (x : Measure) → length cs ≡ class_count → length (memory l) ≡ pair_limit
    → Measures rows nets cs l ds m (Ok x) → measure_lines x ds (items m) ≡ portfolio_lines rows nets
unfolding portfolio_lines
measured_told rows nets cs ds l m x wide room is =
    let made = is.1.0 in
    let none_left : drop class_count cs ≡ [] = nil_from_length _ (omega (arith, length-drop class_count cs)) in
    let few : length ds ≤ class_count = omega (arith, length-drop class_count ds, ap length (made.past ∙ none_left)) in
    let none_refused : portfolio_fault rows nets ≡ None = sym (places rows nets (length cs) (length (memory l)) wide room) ∙ is.0 in
    let classes = classes_told rows nets class_count 0 ds few (λ k below. let same : k ≡ 0 + k = omega arith in subst (λ i. Margin rows (exposure_of rounded rows nets) i (slice_index_or ds k none)) same (made.classes k below)) in
    ap (λ y. measure_lines y ds (items m)) (same_measure rows nets x made.summary is.1.1)
    ∙ ap (λ ms. measure_lines (measure_of rows nets) ds ms) made.items
    ∙ ap (λ t. margin_lines (measure_of rows nets) ++ (gap_lines (measure_of rows nets) ++ (t ++ matches_lines (told_by (net_value rounded rows nets) rows.pairs)))) classes
    ∙ ap (λ o. unless_refused o rows nets) (sym none_refused)

refused_told : (rows : Rows) (nets : ℕ → ℤ) (cs ds : L ClassMargin) (l m : List Match) (f : Fault) → length cs ≡ class_count → length (memory l) ≡ pair_limit
    → Measures rows nets cs l ds m (Err f) → deposit_refused f ≡ portfolio_lines rows nets
unfolding portfolio_lines
refused_told rows nets cs ds l m f wide room is =
    ap (λ o. unless_refused o rows nets) (sym is.0 ∙ places rows nets (length cs) (length (memory l)) wide room)

pub told : (rows : Rows) (nets : ℕ → ℤ) (cs ds : L ClassMargin) (l m : List Match) (x : Result Measure Fault) → Measures rows nets cs l ds m x → length cs ≡ class_count → length (memory l) ≡ pair_limit
    → measured_lines x ds (items m) ≡ portfolio_lines rows nets
unfolding measured_lines
told rows nets cs ds l m (Ok x) is wide room = measured_told rows nets cs ds l m x wide room is
told rows nets cs ds l m (Err x) is wide room = refused_told rows nets cs ds l m x wide room is

-- the same text in another form
pub said_as : {W : Type 0} (took : W → L ℕ → W → Type 0) (f g : Formatter W) (r : Result (Unit {0}) Error) (a b : L ℕ) → a ≡ b → WritesOnOk took f r a g → WritesOnOk took f r b g
said_as took f g r a b same said = displays_on_ok_of_eq took f g r _ _ (ap Some same) said
