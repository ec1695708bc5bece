use Rattle.std.proofs.Common.{take}
use Rattle.std.specs.Prelude.{Contains}
use Rattle.graph_spread.specs.Spread.{Reaching}
use Rattle.graph_spread.proofs.reach.reach_all.Given as goal

abbrev pub invariant-loop-node : goal.invariant-loop-node
invariant-loop-node l =
    Reaching (λ n. Contains (take l.node-index l.nodes) n) l.initial.reached.items l.reached.items l.initial.waiting.items l.waiting.items
