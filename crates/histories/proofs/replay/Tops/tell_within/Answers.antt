use Rattle.std.proofs.Common.{subst, arith}
use Rattle.rules.specs.Rows.{Lawful}
use Rattle.surcharges.specs.Surcharges.{with_additions}
use Rattle.tops.specs.Tallies.{tally_nets}
use Rattle.histories.proofs.Told.{written_within}
use Rattle.histories.proofs.replay.Tops.tell_within.Goals as goal

pub returns-clause-written : goal.returns-clause-written
returns-clause-written g c =
    let cover = c.args.self.now.cover in
    let below = g.U.Cover.under cover in
    let rows = with_additions (g.U.Cover.additions cover) below in
    let nets = tally_nets (g.T.Top.tally c.args.self.now.top) in
    written_within c.min-class_places.result c.min-match_places.result c.args.classes.now c.tell.new.classes c.args.matches.now c.tell.new.matches
    (omega (arith, c.min-class_places.ensures)) (omega (arith, c.min-match_places.ensures)) c.tell.result below rows nets
    (subst Lawful (g.met.U.Cover.shown cover) (g.U.Sheet.lawful cover)) c.tell.ensures.right c.tell.ensures.written
