use Rattle.std.proofs.Common.{◌≡◌, ◌+◌, length, drop}
use Rattle.graph_cycles.specs.steps.Search.{IsSearch, AreOpen, unmarked}
use Rattle.graph_cycles.proofs.search.Search.visit_all.Given as goal

abbrev pub invariant-loop-node : goal.invariant-loop-node
invariant-loop-node l = record {
  search : IsSearch l.successors l.self.checked.items l.self.marks.items l.self.order.items l.self.waiting.items;
  gaps : AreOpen l.successors l.initial.self.checked.items l.initial.self.marks.items l.initial.self.waiting.items l.nodes
      → AreOpen l.successors l.self.checked.items l.self.marks.items l.self.waiting.items (drop l.node-index l.nodes);
  left : unmarked l.self.marks.items + length l.self.waiting.items ≡ unmarked l.initial.self.marks.items + length l.initial.self.waiting.items;
}
