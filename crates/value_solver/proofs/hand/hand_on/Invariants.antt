use Rattle.std.proofs.Common.{take}
use Rattle.value_solver.proofs.Exits.{ArePast}
use Rattle.value_solver.proofs.hand.hand_on.Given as goal

abbrev pub invariant-loop-change : goal.invariant-loop-change
invariant-loop-change l = ArePast l.entry.classes l.entry.given (take l.change-index l.changes) l.classes.items l.given.items
