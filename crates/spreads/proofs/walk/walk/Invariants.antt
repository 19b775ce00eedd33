use Rattle.std.proofs.Common.{◌≡◌, ◌≤◌, ◌++◌, length}
use Rattle.terms.specs.Limits.{class_count}
use Rattle.spreads.specs.Legs.{Fresh, left_of, spreads_of}
use Rattle.spreads.proofs.Walking.{Reached}
use Rattle.spreads.proofs.walk.walk.Given as goal

abbrev pub invariant-loop-pair : goal.invariant-loop-pair
invariant-loop-pair g l = record {
  parts : l.yielded ++ l.pair-iterator ≡ (g.S.Sheet.rows l.sheet).pairs;
  wide : class_count ≤ length l.legs;
  count : length l.spreads.items ≡ length l.yielded;
  walked : (none : g.row.L.Denot) → Fresh g.L.Leg.left g.L.Leg.credits g.L.Leg.largest none l.initial.legs →
      Reached g.L.Leg.rounding g.L.Leg.left g.L.Leg.credits g.L.Leg.with none l.initial.legs l.yielded l.legs
      × (l.spreads.items ≡ spreads_of (left_of g.L.Leg.left none l.initial.legs) l.yielded);
}
