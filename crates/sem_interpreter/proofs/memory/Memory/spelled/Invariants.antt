use Rattle.std.proofs.Common.{◌≡◌, ◌<◌, ◌+◌, ◌-◌, ◌*◌, ◌^◌}
use Rattle.sem_mir.specs.State.{spelled}
use Rattle.sem_interpreter.specs.Memory.{number_in}
use Rattle.sem_interpreter.proofs.memory.Memory.spelled.Given as goal

abbrev pub invariant-loop-i : goal.invariant-loop-i
invariant-loop-i l = record {
  value : l.number ≡ spelled (number_in l.self) (l.address + (l.count - l.i)) l.i;
  below : l.number < 2 ^ (8 * l.i);
}
