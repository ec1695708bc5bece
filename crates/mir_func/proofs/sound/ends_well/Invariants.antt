use Rattle.std.proofs.Common.{◌↔◌, length}
use Rattle.mir_func.specs.Sound.{EndsWell}
use Rattle.mir_func.proofs.sound.ends_well.Given as goal

abbrev pub invariant-loop-i : goal.invariant-loop-i
invariant-loop-i l = EndsWell l.rest ↔ EndsWell l.items

abbrev pub decreases-loop-i : goal.decreases-loop-i
decreases-loop-i l = length l.rest
