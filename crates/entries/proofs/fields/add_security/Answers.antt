use Rattle.std.proofs.Common.{refl}
use Rattle.entries.proofs.Moving.{security_adds}
use Rattle.entries.proofs.fields.add_security.Goals as goal

pub returns : goal.returns
returns c = security_adds _ _ _ _ c.in_ok-item.item (c.in_ok-item.ensures.only _ refl) _ _ c.from.ensures c.from-2.ensures c.add_security.ensures
