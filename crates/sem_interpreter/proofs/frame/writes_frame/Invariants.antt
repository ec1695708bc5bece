use Rattle.std.proofs.Common.{◌≡◌, drop}
use Rattle.sem_mir.specs.State.{writes_frame}
use Rattle.sem_interpreter.specs.Memory.{some_writes}
use Rattle.sem_interpreter.proofs.frame.writes_frame.Given as goal

abbrev pub invariant-loop-write : goal.invariant-loop-write
invariant-loop-write l = writes_frame l.entry l.area (some_writes (drop l.write-index l.writes)) ≡ writes_frame l.entry l.area (some_writes l.writes)
