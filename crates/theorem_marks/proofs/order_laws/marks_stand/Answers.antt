use Rattle.theorem_marks.proofs.Stand.{marks_stand, compiled_stand}
use Rattle.theorem_marks.proofs.order_laws.marks_stand.Goals as goal

pub returns-clause-passes : goal.returns-clause-passes
returns-clause-passes c = marks_stand

pub returns-clause-compiled : goal.returns-clause-compiled
returns-clause-compiled c = compiled_stand
