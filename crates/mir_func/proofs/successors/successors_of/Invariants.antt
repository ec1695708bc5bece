use Rattle.std.proofs.Common.{◌≡◌, length}
use Rattle.mir_func.specs.Sound.{EndsWell}
use Rattle.mir_func.specs.Successors.{ways}
use Rattle.mir_func.proofs.successors.successors_of.Given as goal

abbrev pub invariant-loop-i : goal.invariant-loop-i
invariant-loop-i l = EndsWell l.rest × (ways l.rest l.next ≡ ways l.items l.next)

abbrev pub decreases-loop-i : goal.decreases-loop-i
decreases-loop-i l = length l.rest
