use Rattle.std.proofs.Common.{◌+◌, ◌-◌, length, sym, subst, arith, rules}
use borrow.Rule.Slice.PartMut.{put_mid}
use Rattle.intake.specs.Filling.{Fills, Stands}
use Rattle.intake.proofs.Classes.{records_none, records_more}
use Rattle.intake.proofs.Memories.{no_line, more_lines}
use Rattle.intake.proofs.writing.write_classes.Goals as goal

pub loop-class-init : goal.loop-class-init
loop-class-init c =
    let answer = c.args.answer.now in
    (subst (λ lines. Fills lines answer 0 answer) (sym (records_none c.args.classes.now)) (no_line answer), omega arith)

pub loop-class-preserved : goal.loop-class-preserved
loop-class-preserved c =
    let middle = c.loop-class.answer in
    let count = c.loop-class.count in
    let more = c.write_class-count.result in
    let rest = c.write_class-count.new.memory in (
      subst (λ lines. Fills lines c.args.answer.now (count + more) (put_mid count (length middle - count) middle rest)) (sym (records_more c.loop-class.class c.args.classes.now))
          (more_lines _ _ _ middle count more rest c.loop-class.invariant.0 c.write_class-count.ensures.fills),
      omega (arith, c.loop-class.invariant.1, c.write_class-count.ensures.size),
    )

pub returns-clause-fills : goal.returns-clause-fills
unfolding Stands
returns-clause-fills c = search rules
