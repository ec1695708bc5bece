use Rattle.std.proofs.Common.{◌≡◌, true, take}
use Rattle.std.specs.Prelude.{Contains}
use Rattle.graph_spread.specs.Spread.{Reaching}
use Rattle.graph_spread.proofs.spread.cross_all.Given as goal

abbrev pub invariant-loop-node : goal.invariant-loop-node
invariant-loop-node g l =
    Reaching (λ n. Contains (take l.node-index l.nodes) n × (g.C.Crossing.passes l.crossing l.from n ≡ true)) l.initial.reached.items l.reached.items
    l.initial.waiting.items l.waiting.items
