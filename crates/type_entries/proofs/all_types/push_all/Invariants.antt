use Rattle.type_entries.proofs.Places.{SoFar}
use Rattle.type_entries.proofs.all_types.push_all.Given as goal

abbrev pub invariant-loop-shape : goal.invariant-loop-shape
invariant-loop-shape l = SoFar l.t l.types l.fn.tree l.tree l.starts.items l.shape-index
