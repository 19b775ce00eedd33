use Rattle.std.proofs.Common.{sym, ap, length, ◌∙◌}
use Rattle.frames.specs.Texts.{same_count}
use Rattle.frames.proofs.codec.write_line.Goals as goal

pub write_numbers-requires-clause-count : goal.write_numbers-requires-clause-count
write_numbers-requires-clause-count g c =
    ap length (c.as_slice.ensures ∙ c.figures_of.ensures)
    ∙ same_count g.F.Frame.kind.widths (g.F.Frame.figures c.args.item.now) (g.met.F.Frame.carried c.args.item.now)
    ∙ ap length (sym c.widths.ensures)
