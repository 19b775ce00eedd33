use Rattle.std.proofs.Common.{◌≡◌, ℕ, [], ◌∷◌, ap, subst}
use Rattle.frames.specs.Frames.{line_of}
use Rattle.frames.specs.Kinds.{total_kind}
use Rattle.intake.specs.Filling.{Fills, summary_line}
use Rattle.intake.proofs.writing.write_total.Goals as goal

pub returns-clause-fills : goal.returns-clause-fills
unfolding summary_line
returns-clause-fills c =
    let s = c.args.summary in
    let same : line_of total_kind (s.classes ∷ s.securities ∷ s.pairs ∷ c.grosz.result ∷ []) ≡ summary_line s =
    ap (λ (n : ℕ). line_of total_kind (s.classes ∷ s.securities ∷ s.pairs ∷ n ∷ [])) c.grosz.ensures in
    subst (λ line. Fills (line ∷ []) c.args.memory.now c.put.result c.put.new.memory) same c.put.ensures.fills
