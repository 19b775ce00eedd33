-- The lines of what a deposit tells are the lines of the deposit. Assumes nothing.
use Rattle.std.proofs.Common.{◌≡◌, ℕ, zero, suc, ◌<◌, ◌≤◌, cond, List, [], ◌∷◌, ◌++◌, get_or, ℤ, nat_abs, None, Option, sym, refl, ap, ◌∙◌, arith}
use Rattle.terms.specs.declared.fault.Fault.{Fault}
use Rattle.terms.specs.Limits.{class_count}
use Rattle.frames.specs.Frames.{line_of}
use Rattle.frames.specs.Kinds.{deposit_kind, total_kind}
use Rattle.rules.specs.Rows.{Rows}
use Rattle.rules.specs.Margin.{rounded, DRR, DRS, DSWK, KSPK}
use Rattle.rules.specs.Held.{exposure_of, held_class, securities_held, classes_held, pairs_held}
use Rattle.deposits.specs.declared.records.ClassMargin.{ClassMargin}
use Rattle.deposits.specs.declared.records.Summary.{Summary}
use Rattle.deposits.specs.Deposits.{Margin, SummedUp}
use Rattle.deposits.specs.Told.{none}
use Rattle.intake.specs.Answering.{class_line, deposit_lines, held_lines, total_line}
use Rattle.intake.specs.Filling.{record_line, record_lines, records_lines, summary_line}

module _ (rows : Rows) (nets : ℕ → ℤ) where
  line_told : (c : ℕ) (w : ClassMargin) → Margin rows (exposure_of rounded rows nets) c w → record_line c w ≡ class_line rows nets c
  unfolding record_line
  line_told c w m =
      ap (λ n. line_of deposit_kind (c ∷ n ∷ w.drs.grosz ∷ w.dswk.grosz ∷ w.kspk.grosz ∷ w.dolr.grosz ∷ [])) m.drr
      ∙ ap (λ n. line_of deposit_kind (c ∷ DRR rounded rows nets c ∷ n ∷ w.dswk.grosz ∷ w.kspk.grosz ∷ w.dolr.grosz ∷ [])) m.drs
      ∙ ap (λ n. line_of deposit_kind (c ∷ DRR rounded rows nets c ∷ DRS rounded rows nets c ∷ n ∷ w.kspk.grosz ∷ w.dolr.grosz ∷ [])) m.dswk
      ∙ ap (λ n. line_of deposit_kind (c ∷ DRR rounded rows nets c ∷ DRS rounded rows nets c ∷ DSWK rounded rows nets c ∷ n ∷ w.dolr.grosz ∷ [])) m.kspk
      ∙ ap (λ z. line_of deposit_kind (c ∷ DRR rounded rows nets c ∷ DRS rounded rows nets c ∷ DSWK rounded rows nets c ∷ KSPK rounded rows nets c ∷ nat_abs z ∷ [])) m.dolr

  class_told : (c : ℕ) (w : ClassMargin) → Margin rows (exposure_of rounded rows nets) c w → record_lines c w ≡ cond (held_class rows nets c) (class_line rows nets c ∷ []) []
  class_told c w m = ap (λ b. cond b (record_line c w ∷ []) []) m.held ∙ ap (λ line. cond (held_class rows nets c) (line ∷ []) []) (line_told c w m)

  pub classes_told : (ds : List ClassMargin) → ((c : ℕ) → c < class_count → Margin rows (exposure_of rounded rows nets) c (get_or ds c none)) → (n : ℕ) → n ≤ class_count → records_lines n ds ≡ held_lines n rows nets
  unfolding records_lines held_lines
  classes_told ds told zero h = refl
  classes_told ds told (suc n) h =
      ap (λ lines. lines ++ record_lines n (get_or ds n none)) (classes_told ds told n (omega arith))
      ∙ ap (λ lines. held_lines n rows nets ++ lines) (class_told n (get_or ds n none) (told n (omega arith)))

  pub summary_told : (s : Summary) → SummedUp rows (exposure_of rounded rows nets) s → summary_line s ≡ total_line rows nets
  unfolding summary_line
  summary_told s m =
      ap (λ n. line_of total_kind (n ∷ s.securities ∷ s.pairs ∷ s.dspan.grosz ∷ [])) m.classes
      ∙ ap (λ n. line_of total_kind (classes_held rows nets ∷ n ∷ s.pairs ∷ s.dspan.grosz ∷ [])) m.securities
      ∙ ap (λ n. line_of total_kind (classes_held rows nets ∷ securities_held nets ∷ n ∷ s.dspan.grosz ∷ [])) m.pairs
      ∙ ap (λ z. line_of total_kind (classes_held rows nets ∷ securities_held nets ∷ pairs_held rows nets ∷ nat_abs z ∷ [])) m.dspan

  -- all of it
  pub deposit_told : (questions : Option Fault) → questions ≡ None → (ds : List ClassMargin) → ((c : ℕ) → c < class_count → Margin rows (exposure_of rounded rows nets) c (get_or ds c none)) → (s : Summary) → SummedUp rows (exposure_of rounded rows nets) s
      → records_lines class_count ds ++ summary_line s ∷ [] ≡ deposit_lines questions rows nets
  deposit_told questions passed ds classes s summed =
      ap (λ lines. lines ++ summary_line s ∷ []) (classes_told ds classes class_count (omega arith))
      ∙ ap (λ line. held_lines class_count rows nets ++ line ∷ []) (summary_told s summed)
      ∙ sym (ap (λ o. deposit_lines o rows nets) passed)
