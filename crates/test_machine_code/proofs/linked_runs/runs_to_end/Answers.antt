use Rattle.std.proofs.Common.{refl}
use Rattle.test_machine_code.proofs.linked_runs.runs_to_end.Goals as goal

pub comes_to_end-requires-clause-counted : goal.comes_to_end-requires-clause-counted
comes_to_end-requires-clause-counted c = c.if-not-can_run.ensures.0 refl
