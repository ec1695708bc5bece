use Rattle.std.proofs.Common.{◌≡◌, length}
use Rattle.type_nodes.specs.steps.Graphs.{chain_ways}
use Rattle.type_nodes.proofs.Building.{AreRight}
use Rattle.type_nodes.proofs.steps.chains.Given as goal

abbrev pub invariant-loop-i : goal.invariant-loop-i
invariant-loop-i l = record {
  long : length l.graph.items ≡ l.i;
  right : AreRight (chain_ways (length l.types)) l.types l.graph.items l.i;
}
