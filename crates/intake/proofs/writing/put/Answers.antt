use Rattle.std.proofs.Common.{◌<◌, length, sym, refl, ◌∙◌, subst, arith}
use Rattle.std.specs.Result.{IsOk}
use Rattle.frames.specs.Frames.{line_of}
use Rattle.frames.specs.Texts.{length_line}
use Rattle.intake.proofs.Memories.{answers, length_one, one_line}
use Rattle.intake.proofs.writing.put.Goals as goal

-- there is room, so that the frame is written
pub unwrap-requires : goal.unwrap-requires
unwrap-requires g c =
    let frame = g.F.Frame in
    let item = c.args.item.now in
    let line = line_of frame.kind (frame.figures item) in
    let long = length_line frame.kind (frame.figures item) (g.met.F.Frame.carried item) in
    let room : length line < length c.args.memory.now = omega (arith, long, c.requires) in
    subst IsOk (sym (c.write.ensures.told ∙ answers line c.args.memory.now room)) refl

pub returns-clause-size : goal.returns-clause-size
returns-clause-size g c =
    let frame = g.F.Frame in
    let item = c.args.item.now in
    let line = line_of frame.kind (frame.figures item) in
    let long = length_line frame.kind (frame.figures item) (g.met.F.Frame.carried item) in
    let room : length line < length c.args.memory.now = omega (arith, long, c.requires) in
    let fills = one_line line c.args.memory.now room c.unwrap.result c.write.new.memory (sym c.unwrap.ensures ∙ c.write.ensures.told) c.write.ensures.after in
    omega (arith, fills.told, length_one line)
