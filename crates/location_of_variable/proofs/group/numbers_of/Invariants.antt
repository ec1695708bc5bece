use Rattle.location_of_variable.specs.steps.Gathering.{NumbersBelow}
use Rattle.location_of_variable.proofs.group.numbers_of.Given as goal

abbrev pub invariant-loop-k : goal.invariant-loop-k
invariant-loop-k l = NumbersBelow l.k l.variables l.numbers
