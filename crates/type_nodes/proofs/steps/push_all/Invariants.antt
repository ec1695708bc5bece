use Rattle.std.proofs.Common.{◌≡◌, ◌++◌, filter, take}
use Rattle.graph_cycles.specs.Ends.{is_marked}
use Rattle.type_nodes.proofs.steps.push_all.Given as goal

abbrev pub invariant-loop-index : goal.invariant-loop-index
invariant-loop-index l = l.ways ≡ l.initial.ways ++ filter (is_marked l.made) (take l.index-index l.indices)
