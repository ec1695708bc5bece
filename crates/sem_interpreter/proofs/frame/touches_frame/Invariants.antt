use Rattle.std.proofs.Common.{◌≡◌, ◌+◌, ◌-◌}
use Rattle.sem_mir.specs.State.{touches_frame}
use Rattle.sem_interpreter.proofs.frame.touches_frame.Given as goal

abbrev pub invariant-loop-k : goal.invariant-loop-k
invariant-loop-k l = touches_frame l.entry l.area (l.address + l.k) (l.count - l.k) ≡ touches_frame l.entry l.area l.address l.count
