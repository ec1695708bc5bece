use Rattle.std.proofs.Common.{◌≡◌, ◌++◌, drop}
use Rattle.object_command.specs.Calls.{call_sites}
use Rattle.object_command.proofs.calls.call_sites.Given as goal

abbrev pub invariant-loop-function : goal.invariant-loop-function
invariant-loop-function l = l.sites ++ call_sites (drop l.function-index l.functions) ≡ call_sites l.functions
