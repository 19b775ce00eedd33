use Rattle.std.proofs.Common.{◌≡◌, ℕ, [], ◌∷◌, ap, ◌∙◌, subst}
use Rattle.frames.specs.Frames.{line_of}
use Rattle.frames.specs.Kinds.{deposit_kind}
use Rattle.intake.specs.Filling.{Fills, record_line}
use Rattle.intake.proofs.writing.write_record.Goals as goal

pub returns-clause-fills : goal.returns-clause-fills
unfolding record_line
returns-clause-fills c =
    let w = c.args.margin.now in
    let class = c.args.class in
    let same : line_of deposit_kind (class ∷ c.grosz.result ∷ c.grosz-2.result ∷ c.grosz-3.result ∷ c.grosz-4.result ∷ c.grosz-5.result ∷ []) ≡ record_line class w =
    ap (λ (n : ℕ). line_of deposit_kind (class ∷ n ∷ c.grosz-2.result ∷ c.grosz-3.result ∷ c.grosz-4.result ∷ c.grosz-5.result ∷ [])) c.grosz.ensures
    ∙ ap (λ (n : ℕ). line_of deposit_kind (class ∷ w.drr.grosz ∷ n ∷ c.grosz-3.result ∷ c.grosz-4.result ∷ c.grosz-5.result ∷ [])) c.grosz-2.ensures
    ∙ ap (λ (n : ℕ). line_of deposit_kind (class ∷ w.drr.grosz ∷ w.drs.grosz ∷ n ∷ c.grosz-4.result ∷ c.grosz-5.result ∷ [])) c.grosz-3.ensures
    ∙ ap (λ (n : ℕ). line_of deposit_kind (class ∷ w.drr.grosz ∷ w.drs.grosz ∷ w.dswk.grosz ∷ n ∷ c.grosz-5.result ∷ [])) c.grosz-4.ensures
    ∙ ap (λ (n : ℕ). line_of deposit_kind (class ∷ w.drr.grosz ∷ w.drs.grosz ∷ w.dswk.grosz ∷ w.kspk.grosz ∷ n ∷ [])) c.grosz-5.ensures in
    subst (λ line. Fills (line ∷ []) c.args.memory.now c.put.result c.put.new.memory) same c.put.ensures.fills
