use Rattle.std.proofs.Common.{◌≡◌, ◌-◌, length}
use Rattle.mir_func.specs.Resolve.{resolve}
use Rattle.mir_substitution.specs.Forest.{node_of}
use Rattle.mir_substitution.proofs.forest.find.Given as goal

abbrev pub invariant-loop-parent : goal.invariant-loop-parent
invariant-loop-parent l = resolve l.entries l.at ≡ resolve l.entries l.fn.pair

abbrev pub decreases-loop-parent : goal.decreases-loop-parent
decreases-loop-parent l = length l.entries - (node_of l.forest l.at).rank
