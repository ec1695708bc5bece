use Rattle.std.proofs.Common.{◌≡◌, take}
use Rattle.value_solver.proofs.hand.widened.Given as goal

abbrev pub invariant-loop-class : goal.invariant-loop-class
invariant-loop-class l = l.wide.items ≡ take l.class-index l.classes
