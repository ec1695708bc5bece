use Rattle.location_of_variable.specs.steps.Gathering.{AreGathered}
use Rattle.location_of_variable.proofs.group.gather.Given as goal

abbrev pub invariant-loop-j : goal.invariant-loop-j
invariant-loop-j l = AreGathered l.parts l.numbers l.j l.count l.groups.items
