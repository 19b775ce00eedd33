-- From the records that the steps of a deposit leave to those that are defined. Assumes nothing.
use Rattle.std.proofs.Common.{◌≡◌, ℕ, zero, suc, ◌+◌, ◌-◌, ◌^◌, ◌<◌, ◌≤◌, min, Bool, false, cond, ◌&&◌, ltb, [], ◌∷◌, map, get_or, take, ℤ, pos, ◌+ℤ◌, ◌-ℤ◌, nat_abs, Option, sym, refl, ap, ◌∙◌, subst, ap₂, ⊎_elim, arith, length-take, get_or-take}
use mathlib.Core.Path.{fun_ext}
use mathlib.Core.List as L
use borrow.Author.Differences.{ints}
use Rattle.std.proofs.lemmas.List.{get_or_past}
use Rattle.std.proofs.lemmas.Bool.{ltb-false, cases_lt}
use Rattle.terms.specs.Limits.{class_count}
use Rattle.rules.specs.declared.rows.PairRow.{PairRow}
use Rattle.rules.specs.declared.rows.ClassRow.{ClassRow}
use Rattle.terms.specs.Sums.{sum_below, sum_belowℤ, count_below}
use Rattle.rules.specs.Rows.{Rows, Lawful, Every, figure}
use Rattle.rules.specs.Margin.{TwoSums, rounded, step, match_of, net_in, leftovers, credits, matches, DRR_from, DRS_from, DSWK_from, KSPK_from, DOLR_from, DSPAN_from}
use Rattle.rules.specs.Held.{both_in, classes_in, count_pairs, pairs_in}
use Rattle.rules.specs.Laws.{Matched, Matching, deposit_limit}
use Rattle.rules.proofs.Parts.{nat_abs_is}
use Rattle.rules.proofs.Sums.{sum_same}
use Rattle.rules.proofs.Walk.{Agree, credits_agree, leftovers_agree, matches_agree, every_map, walk_shrinks}
use Rattle.rules.proofs.Theorems.{apart_pairs, credits_within, matching, no_negative}
use Rattle.rules.proofs.Classes.{abs_minus, figure_small}
use Rattle.rules.proofs.Fits.{part_small, parts_small}
use Rattle.sheets.specs.Readings.{Figures, rates_in}
use Rattle.positions.specs.declared.class_sum.ClassSum.{ClassSum}
use Rattle.positions.specs.declared.class_sums.ClassSums.{ClassSums}
use Rattle.positions.specs.ClassSums.{no_sum}
use Rattle.positions.specs.Sums.{exposure_in}
use Rattle.positions.specs.Values.{zl}
use Rattle.deposits.specs.declared.records.ClassMargin.{ClassMargin}
use Rattle.deposits.specs.declared.records.Match.{Match}
use Rattle.deposits.specs.Told.{gr, none, sz, told, told_by}
use Rattle.deposits.specs.Records.{class_opened, opened_by, left_of, walked, closed, Owing, held_flag, both_flagged}
use Rattle.deposits.specs.Deposits.{Balanced, Margin, left_told, matched_told}
use Rattle.lists.specs.declared.list.List.{List}
use Rattle.lists.specs.Lists.{items}
use Rattle.spreads.proofs.Walking.{below, sounds}

part_none : (y : ℕ) → rounded.part y 0 ≡ 0
part_none y = omega arith

difference : (r k x w o : ℕ) → k ≤ r → o ≡ r - k + x + w → pos o ≡ pos (r + x + w) -ℤ pos k
difference r k x w o h e = omega (arith, ints)

-- ---- a class that is not held

idle_record : (r : Figures) (pk ps n : ℕ) (l : ℤ) (k : ℕ) → pk ≡ 0 → ps ≡ 0 → n ≡ 0 → l ≡ pos 0 → k ≡ 0 → closed (walked (opened_by r pk ps (ltb 0 n)) l k) ≡ none
idle_record r pk ps n l k a b d e f =
    let shape : ℕ → ℕ → ℕ → ClassMargin = λ u v w. record { bought = zl 0; sold = zl 0; leftover = sz (pos 0); held = false; drr = gr u; drs = gr v; dswk = gr w; kspk = gr 0; dolr = gr (u - 0 + v + w) } in
    ap₂ (λ (q s : ℕ). closed (walked (opened_by r q s (ltb 0 n)) l k)) a b
    ∙ ap (λ (q : ℕ). closed (walked (opened_by r 0 0 (ltb 0 q)) l k)) d
    ∙ ap₂ (λ (z : ℤ) (q : ℕ). closed (walked (opened_by r 0 0 false) z q)) e f
    ∙ ap (λ (u : ℕ). shape u (rounded.part r.x 0) (rounded.part r.dep 0)) (part_none r.y)
    ∙ ap₂ (λ (v w : ℕ). shape 0 v w) (part_none r.x) (part_none r.dep)

zero_both : (z w : ℤ) → nat_abs z ≡ 0 → nat_abs w ≤ nat_abs z → w ≡ pos 0
zero_both z w a b = omega (arith, ints)

-- a class whose two sums are nothing is left with nothing
left_none : (rows : Rows) → Lawful rows → (v : ℕ → ℤ) (c : ℕ) → nat_abs (v c) ≡ 0 → leftovers v rows.pairs c ≡ pos 0
left_none rows h v c z = zero_both (v c) (leftovers v rows.pairs c) z (omega (arith, nat_abs_is (v c), nat_abs_is (leftovers v rows.pairs c), walk_shrinks v rows.pairs (apart_pairs rows h) c))

-- ---- sums of natural numbers as integers, counts of pairs, matches told

sum_pos : (n : ℕ) (f : ℕ → ℕ) (g : ℕ → ℤ) → ((i : ℕ) → i < n → pos (f i) ≡ g i) → pos (sum_below n f) ≡ sum_belowℤ n g
unfolding sum_below sum_belowℤ
sum_pos zero f g h = refl
sum_pos (suc n) f g h = ap₂ (λ (a b : ℤ). a +ℤ b) (sum_pos n f g (λ i l. h i (omega arith))) (h n (omega arith))

count_same : (t u : PairRow → Bool) (ps : L.List PairRow) → Every (λ p. t p ≡ u p) ps → count_pairs t ps ≡ count_pairs u ps
count_same t u [] h = refl
count_same t u (p ∷ ps) h = ap₂ (λ (b : Bool) (n : ℕ). cond {A = ℕ} b 1 0 + n) h.0 (count_same t u ps h.1)

pub matches_told : (f : ℕ → ℤ) (ps : L.List PairRow) → map (λ (x : Match). x.matched.units) (told_by f ps) ≡ matches f ps
matches_told f [] = refl
matches_told f (p ∷ ps) = ap (λ (l : L.List ℕ). match_of f p ∷ l) (matches_told (step f p) ps)

-- cs are the records before the walk, of classes that sum to xs
module _ (rows : Rows) (lawful : Lawful rows) (sums : ClassSums)
    (cs : L.List ClassMargin) (o : (c : ℕ) → c < class_count → get_or cs c none ≡ class_opened rows (get_or sums.classes c no_sum) c) where
  pub left_small : (c : ℕ) → c < class_count → nat_abs (left_of cs c) ≤ 2 ^ 62
  left_small c l =
      let x : ClassSum = get_or sums.classes c no_sum in
      omega (arith, sums.small c l, ap (λ (w : ClassMargin). nat_abs w.leftover.net) (o c l), abs_minus x.bought.units x.sold.units)

  starts : Agree class_count (left_of cs) (net_in (exposure_in sums).sums)
  starts c l = ap (λ (w : ClassMargin). w.leftover.net) (o c l)

  pub told_is : told_by (left_of cs) rows.pairs ≡ told_by (net_in (exposure_in sums).sums) rows.pairs
  told_is = ap (told rows.pairs) (matches_agree class_count (left_of cs) (net_in (exposure_in sums).sums) rows.pairs (below rows lawful) starts)

  left_is : (c : ℕ) → c < class_count → leftovers (left_of cs) rows.pairs c ≡ leftovers (net_in (exposure_in sums).sums) rows.pairs c
  left_is = leftovers_agree class_count (left_of cs) (net_in (exposure_in sums).sums) rows.pairs (below rows lawful) starts

  kspk_is : (c : ℕ) → credits rounded (left_of cs) rows.pairs c ≡ KSPK_from rounded rows (exposure_in sums).sums c
  kspk_is = credits_agree class_count rounded (left_of cs) (net_in (exposure_in sums).sums) rows.pairs (below rows lawful) starts

  -- the record of a class after the walk
  abbrev pub after : ℕ → ClassMargin
  after c = walked (class_opened rows (get_or sums.classes c no_sum) c) (leftovers (left_of cs) rows.pairs c) (credits rounded (left_of cs) rows.pairs c)

  credit_fits : (c : ℕ) → (after c).kspk.grosz ≤ (after c).drr.grosz
  credit_fits c = omega (arith, kspk_is c, credits_within rows lawful (exposure_in sums).sums c)

  owing : (c : ℕ) → c < class_count → Owing (after c)
  owing c l =
      let pk : ℕ = (get_or sums.classes c no_sum).bought.units in
      let ps : ℕ = (get_or sums.classes c no_sum).sold.units in
      let row : Option ClassRow = rows.classes c in (
        credit_fits c,
        parts_small pk ps _ _ _ (sums.small c l)
            (part_small (figure (λ r. r.y) row) (nat_abs (pos pk -ℤ pos ps)) (figure_small (λ r. r.y) c (λ r l. l.y_small) row (lawful.of_classes c)))
            (part_small (figure (λ r. r.x) row) (pk + ps) (figure_small (λ r. r.x) c (λ r l. l.x_small) row (lawful.of_classes c)))
            (part_small (figure (λ r. r.dep) row) (min pk ps) (figure_small (λ r. r.dep) c (λ r l. l.dep_small) row (lawful.of_classes c))),
      )

  pub after_walk : (ws : L.List ClassMargin) →
      ((c : ℕ) → c < class_count → get_or ws c none ≡ walked (get_or cs c none) (leftovers (left_of cs) rows.pairs c) (credits rounded (left_of cs) rows.pairs c)) →
      (c : ℕ) → c < class_count → get_or ws c none ≡ after c
  after_walk ws w c l = w c l ∙ ap (λ (x : ClassMargin). walked x (leftovers (left_of cs) rows.pairs c) (credits rounded (left_of cs) rows.pairs c)) (o c l)

  pub owing_after : (ws : L.List ClassMargin) → ((c : ℕ) → c < class_count → get_or ws c none ≡ after c) → (c : ℕ) → c < class_count → Owing (get_or ws c none)
  owing_after ws w c l = subst Owing (sym (w c l)) (owing c l)

  idle : (c : ℕ) → c < class_count → ltb 0 (get_or sums.classes c no_sum).held ≡ false → closed (after c) ≡ none
  idle c l h =
      let x : ClassSum = get_or sums.classes c no_sum in
      let e : x.held ≡ 0 = omega (arith, ltb-false 0 x.held h) in
      let b = sums.idle c l e in
      let z : nat_abs (pos x.bought.units -ℤ pos x.sold.units) ≡ 0 = omega (arith, b.0, b.1, abs_minus x.bought.units x.sold.units) in
      let drr : (after c).drr.grosz ≡ 0 = ap (rounded.part (figure (λ r. r.y) (rows.classes c))) z ∙ part_none (figure (λ r. r.y) (rows.classes c)) in
      idle_record (rates_in (rows.classes c)) x.bought.units x.sold.units x.held (leftovers (left_of cs) rows.pairs c) (credits rounded (left_of cs) rows.pairs c)
      b.0 b.1 e (left_is c l ∙ left_none rows lawful (net_in (exposure_in sums).sums) c z) (omega (arith, drr, credit_fits c))

  -- the records in the end
  module _ (ds : L.List ClassMargin) (e : (c : ℕ) → c < class_count → get_or ds c none ≡ closed (after c)) where
    pub dolr_small : (c : ℕ) → c < class_count → (get_or ds c none).dolr.grosz ≤ deposit_limit
    dolr_small c l = omega (arith, ap (λ (w : ClassMargin). w.dolr.grosz) (e c l), owing c l)

    pub margins : (c : ℕ) → c < class_count → Margin rows (exposure_in sums) c (get_or ds c none)
    margins c l =
        let two : TwoSums = (exposure_in sums).sums in
        record {
          bought = ap (λ (w : ClassMargin). w.bought.units) (e c l);
          sold = ap (λ (w : ClassMargin). w.sold.units) (e c l);
          leftover = ap (λ (w : ClassMargin). w.leftover.net) (e c l) ∙ left_is c l;
          held = ap (λ (w : ClassMargin). w.held) (e c l);
          drr = ap (λ (w : ClassMargin). w.drr.grosz) (e c l);
          drs = ap (λ (w : ClassMargin). w.drs.grosz) (e c l);
          dswk = ap (λ (w : ClassMargin). w.dswk.grosz) (e c l);
          kspk = ap (λ (w : ClassMargin). w.kspk.grosz) (e c l) ∙ kspk_is c;
          dolr = difference (DRR_from rounded rows two c) (KSPK_from rounded rows two c) (DRS_from rounded rows two c) (DSWK_from rounded rows two c) (get_or ds c none).dolr.grosz (credits_within rows lawful two c)
              (ap (λ (w : ClassMargin). w.dolr.grosz) (e c l) ∙ ap (λ (k : ℕ). DRR_from rounded rows two c - k + DRS_from rounded rows two c + DSWK_from rounded rows two c) (kspk_is c));
          idle = λ h. e c l ∙ idle c l h;
        }

    pub span_is : (n : ℕ) → n ≡ sum_below class_count (λ c. (get_or ds c none).dolr.grosz) → pos n ≡ DSPAN_from rounded rows (exposure_in sums).sums
    span_is n h = ap pos h ∙ sum_pos class_count (λ c. (get_or ds c none).dolr.grosz) (DOLR_from rounded rows (exposure_in sums).sums) (λ c l. (margins c l).dolr)

    pub classes_are : (n : ℕ) → n ≡ count_below class_count (held_flag ds) → n ≡ classes_in (exposure_in sums).held
    classes_are n h =
        h ∙ sum_same class_count (λ c. cond (held_flag ds c) 1 0) (λ c. cond ((exposure_in sums).held c) 1 0) (λ c l. ap (λ (t : Bool). cond {A = ℕ} t 1 0) (margins c l).held)

    pub pairs_are : (n : ℕ) → n ≡ count_pairs (both_flagged ds) rows.pairs → n ≡ pairs_in (exposure_in sums).held rows.pairs
    pairs_are n h =
        h ∙ count_same (both_flagged ds) (both_in (exposure_in sums).held) rows.pairs
        (every_map (λ q s. ap₂ (λ (a b : Bool). a && b) (margins q.first s.one).held (margins q.second s.other).held) rows.pairs (sounds rows lawful))

    nothing_past : (c : ℕ) → class_count ≤ c → leftovers (net_in (exposure_in sums).sums) rows.pairs c ≡ pos 0
    nothing_past c b =
        left_none rows lawful (net_in (exposure_in sums).sums) c
        (ap (λ (x : ClassSum). nat_abs (pos x.bought.units -ℤ pos x.sold.units)) (get_or_past sums.classes c no_sum (omega (arith, sums.wide))))

    left_at : (c : ℕ) → left_told ds c ≡ leftovers (net_in (exposure_in sums).sums) rows.pairs c
    left_at c =
        ⊎_elim
        (λ (l : c < class_count). ap (λ (w : ClassMargin). w.leftover.net) (get_or-take class_count ds c none l) ∙ (margins c l).leftover)
        (λ (b : class_count ≤ c). ap (λ (w : ClassMargin). w.leftover.net) (get_or_past (take class_count ds) c none (omega (arith, length-take class_count ds))) ∙ sym (nothing_past c b))
        (cases_lt c class_count)

    pub balanced : (m : List Match) → items m ≡ told_by (net_in (exposure_in sums).sums) rows.pairs → Balanced rows (exposure_in sums).sums ds m
    unfolding Matching
    balanced m h =
        let f : ℕ → ℤ = net_in (exposure_in sums).sums in
        record {
          matched = subst (λ (g : ℕ → ℤ). Matched f rows.pairs (matched_told m) g) (sym (fun_ext left_at))
              (subst (λ (ns : L.List ℕ). Matched f rows.pairs ns (leftovers f rows.pairs)) (sym (ap (map (λ (x : Match). x.matched.units)) h ∙ matches_told f rows.pairs)) (matching rows lawful f));
          owed = λ c l. ((margins c l).dolr, no_negative rows lawful (exposure_in sums).sums c);
        }
