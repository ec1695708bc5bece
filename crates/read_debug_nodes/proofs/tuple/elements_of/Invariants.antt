use Rattle.std.proofs.Common.{◌≡◌, length}
use Rattle.read_debug_nodes.specs.Tuple.{some_elements}
use Rattle.read_debug_nodes.proofs.Elements.{joined}
use Rattle.read_debug_nodes.proofs.tuple.elements_of.Given as goal

abbrev pub invariant-loop-rest : goal.invariant-loop-rest
invariant-loop-rest l = joined l.elements (some_elements l.line l.rest) ≡ some_elements l.line l.tokens

abbrev pub decreases-loop-rest : goal.decreases-loop-rest
decreases-loop-rest l = length l.rest
