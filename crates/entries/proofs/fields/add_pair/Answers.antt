use Rattle.std.proofs.Common.{refl}
use Rattle.entries.proofs.Moving.{pair_adds}
use Rattle.entries.proofs.fields.add_pair.Goals as goal

pub returns : goal.returns
returns c = pair_adds _ _ _ _ c.in_ok-item.item (c.in_ok-item.ensures.only _ refl) _ _ c.from.ensures c.from-2.ensures c.add_pair.ensures
