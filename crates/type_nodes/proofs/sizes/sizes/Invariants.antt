use Rattle.type_nodes.proofs.Ordered.{SoFar}
use Rattle.type_nodes.proofs.sizes.sizes.Given as goal

abbrev pub invariant-loop-index : goal.invariant-loop-index
invariant-loop-index l = SoFar l.types l.order l.index-index l.sizes.items
