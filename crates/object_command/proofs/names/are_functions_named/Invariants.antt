use Rattle.std.specs.Prelude.{All}
use Rattle.std.proofs.Common.{take}
use Rattle.object_command.specs.Object.{IsSymbolName}
use Rattle.object_command.proofs.names.are_functions_named.Given as goal

abbrev pub invariant-loop-function : goal.invariant-loop-function
invariant-loop-function l = All (λ f. IsSymbolName f.name) (take l.function-index l.functions)
