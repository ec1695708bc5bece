use Rattle.value_solver.specs.PairNumbers.{IsTidy, number_in}
use Rattle.value_solver.proofs.Pairing.{Numbering}
use Rattle.value_solver.proofs.meet.meet.Given as goal

abbrev pub invariant-loop-i : goal.invariant-loop-i
invariant-loop-i l = record { numbering : Numbering l.a l.b l.i l.count (number_in l.pairs) l.classes.items; tidy : IsTidy l.pairs }
