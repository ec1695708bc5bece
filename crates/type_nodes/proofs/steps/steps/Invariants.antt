use Rattle.std.proofs.Common.{◌≡◌, length}
use Rattle.type_nodes.specs.steps.Graphs.{step_ways}
use Rattle.type_nodes.proofs.Building.{AreRight}
use Rattle.type_nodes.proofs.steps.steps.Given as goal

abbrev pub invariant-loop-i : goal.invariant-loop-i
invariant-loop-i l = record {
  long : length l.graph.items ≡ l.i;
  right : AreRight (step_ways l.walk l.made) l.types l.graph.items l.i;
}
