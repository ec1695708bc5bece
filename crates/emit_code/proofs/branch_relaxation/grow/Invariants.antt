use Rattle.emit_code.proofs.Growing.{IsMade}
use Rattle.emit_code.proofs.branch_relaxation.grow.Given as goal

abbrev pub invariant-loop-index : goal.invariant-loop-index
invariant-loop-index l = IsMade l.sums l.initial.spans.items l.spans.items l.index l.found
