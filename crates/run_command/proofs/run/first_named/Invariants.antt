use Rattle.std.proofs.Common.{take}
use Rattle.run_command.specs.Runs.{HasNone}
use Rattle.run_command.proofs.run.first_named.Given as goal

abbrev pub invariant-loop-number : goal.invariant-loop-number
invariant-loop-number l = HasNone l.name (take l.number l.functions)
