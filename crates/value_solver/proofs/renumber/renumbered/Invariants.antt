use Rattle.std.proofs.Common.{length}
use Rattle.value_solver.specs.ClassNumbers.{number_alone}
use Rattle.value_solver.proofs.Pairing.{Numbering}
use Rattle.value_solver.proofs.Renumbering.{zeros}
use Rattle.value_solver.proofs.renumber.renumbered.Given as goal

abbrev pub invariant-loop-i : goal.invariant-loop-i
invariant-loop-i l = Numbering (zeros (length l.classes)) l.classes l.i l.count (number_alone l.numbers) l.renumbered.items
