use Rattle.std.proofs.Common.{rules, suc, ◌++◌, take, drop, sym, ap, ◌∙◌, take-append-drop, drop-cons}
use Rattle.replay.proofs.script.script_of.Goals as goal

pub returns-in-None : goal.returns-in-None
returns-in-None g c = record {
  none = search rules;
  before = take c.loop-order.order-index c.args.orders.now;
  script = c.loop-order.script.items;
  beside = c.loop-order.invariant;
  rest = drop (suc c.loop-order.order-index) c.args.orders.now;
  among = sym (take-append-drop c.loop-order.order-index c.args.orders.now) ∙ ap (λ rest. take c.loop-order.order-index c.args.orders.now ++ rest) (drop-cons c.args.orders.now c.loop-order.order-index _ c.loop-order-test.true);
}
