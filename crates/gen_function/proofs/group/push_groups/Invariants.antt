use Rattle.gen_function.specs.Generator.{groups}
use Rattle.gen_function.specs.steps.Making.{Appends}
use Rattle.gen_function.proofs.group.push_groups.Given as goal

abbrev pub invariant-loop : goal.invariant-loop
invariant-loop l = Appends (groups l.counter l.initial.draws) l.initial.kinds l.kinds l.draws
