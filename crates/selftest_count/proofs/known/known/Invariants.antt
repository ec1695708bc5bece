use Rattle.std.proofs.Common.{◌≡◌, ◌≤◌, take}
use Rattle.sem_mir.specs.State.{State}
use Rattle.sem_interpreter.specs.StandsFor.{StandsFor}
use Rattle.selftest_count.specs.Counts.{known_in}
use Rattle.selftest_count.proofs.known.known.Given as goal

abbrev pub invariant-loop-part : goal.invariant-loop-part
invariant-loop-part l = record {
  few : l.known ≤ l.part-index;
  is : (s : State) → StandsFor l.state s → l.known ≡ known_in (take l.part-index l.parts) s;
}
