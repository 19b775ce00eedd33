use Rattle.std.proofs.Common.{take}
use Rattle.replay.specs.Scripts.{Beside}
use Rattle.replay.proofs.script.script_of.Given as goal

abbrev pub invariant-loop-order : goal.invariant-loop-order
invariant-loop-order g l = Beside g.O.OwnCall.asked g.P.OwnCall.asked (take l.order-index l.orders) l.script.items
