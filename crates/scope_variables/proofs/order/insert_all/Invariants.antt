use Rattle.std.proofs.Common.{◌≡◌, drop, map}
use Rattle.scope_variables.specs.Order.{in_order, key}
use Rattle.scope_variables.proofs.order.insert_all.Given as goal

abbrev pub invariant-loop-node : goal.invariant-loop-node
invariant-loop-node l = in_order l.keys.keys (map (key l.debug) (drop l.node-index l.nodes)) ≡ in_order l.initial.keys.keys (map (key l.debug) l.nodes)
