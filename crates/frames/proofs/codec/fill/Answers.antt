use Rattle.std.proofs.Common.{arith}
use Rattle.frames.specs.Frames.{line_of}
use Rattle.frames.specs.Texts.{length_line}
use Rattle.frames.proofs.Writes.{written_fits}
use Rattle.frames.proofs.codec.fill.Goals as goal

pub returns : goal.returns
returns g c =
    let line = line_of g.F.Frame.kind (g.F.Frame.figures c.args.item.now) in
    let long = length_line g.F.Frame.kind (g.F.Frame.figures c.args.item.now) (g.met.F.Frame.carried c.args.item.now) in
    written_fits line c.args.memory.now _ _ _ c.requires (omega (arith, long, c.LENGTH.ensures, g.met.F.Frame.shaped.of_length)) c.write_line.ensures c.split_at_mut-line.ensures.back
