use Rattle.std.proofs.Common.{◌≡◌, drop}
use Rattle.sem_interpreter.specs.Assigned.{part_in}
use Rattle.sem_interpreter.proofs.assignments.last_in.Given as goal

abbrev pub invariant-loop-newest : goal.invariant-loop-newest
invariant-loop-newest l = part_in l.part (drop l.newest-index l.parts) ≡ part_in l.part l.parts
