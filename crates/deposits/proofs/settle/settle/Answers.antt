use Rattle.std.proofs.Common.{rules}
use Rattle.std.specs.Array.{IsFirstChunk}
use Rattle.terms.specs.Limits.{class_count}
use Rattle.deposits.proofs.Placing.{settles_placed}
use Rattle.deposits.proofs.settle.settle.Goals as goal

pub returns-clause-settles : goal.returns-clause-settles
returns-clause-settles g c =
    let e = c.settle_in.ensures in
    let first : IsFirstChunk c.args.classes.now c.in_ok-places.places.now class_count = search rules in
    settles_placed _ _ _ _ _ _ _ e.wide first (search rules) _ e.deposited e.balanced
