use Rattle.std.proofs.Common.{refl}
use Rattle.test_ir.proofs.runs.sees_of.Goals as goal

pub looks_on-requires-clause-counted : goal.looks_on-requires-clause-counted
looks_on-requires-clause-counted c = c.if-not-can_run.ensures.0 refl
