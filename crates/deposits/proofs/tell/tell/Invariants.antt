use Rattle.std.proofs.Common.{◌≡◌, ◌++◌, drop, map, take}
use Rattle.lists.specs.Lists.{items, lender, memory}
use Rattle.deposits.specs.Told.{told_of}
use Rattle.deposits.proofs.tell.tell.Given as goal

abbrev pub invariant-loop-spread : goal.invariant-loop-spread
invariant-loop-spread l = record {
  lender : lender l.matches ≡ lender l.fn.matches;
  items : items l.matches ≡ map told_of (take l.spread-index l.spreads);
  memory : memory l.matches ≡ map told_of (take l.spread-index l.spreads) ++ drop l.spread-index (memory l.fn.matches);
}
