use Rattle.std.proofs.Common.{refl}
use Rattle.entries.proofs.Moving.{class_adds}
use Rattle.entries.proofs.fields.add_class.Goals as goal

pub returns : goal.returns
returns c = class_adds _ _ _ _ c.in_ok-item.item (c.in_ok-item.ensures.only _ refl) _ c.from.ensures c.add_class.ensures
