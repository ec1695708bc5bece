use Rattle.std.proofs.Common.{◌+◌, [], length}
use Rattle.graph_cycles.specs.steps.Search.{IsSearch, AreOpen, unmarked}
use Rattle.graph_cycles.proofs.ends.ends.Given as goal

abbrev pub invariant-loop-node : goal.invariant-loop-node
invariant-loop-node l = record {
  search : IsSearch l.successors l.search.checked.items l.search.marks.items l.search.order.items l.search.waiting.items;
  gaps : AreOpen l.successors l.search.checked.items l.search.marks.items l.search.waiting.items [];
}

abbrev pub decreases-loop-node : goal.decreases-loop-node
decreases-loop-node l = unmarked l.search.marks.items + length l.search.waiting.items
