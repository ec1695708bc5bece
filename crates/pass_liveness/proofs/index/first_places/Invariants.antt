use Rattle.std.proofs.Common.{take}
use Rattle.pass_liveness.specs.Index.{Finds}
use Rattle.pass_liveness.proofs.index.first_places.Given as goal

abbrev pub invariant-loop-i : goal.invariant-loop-i
invariant-loop-i l = Finds (take l.i l.list) l.found
