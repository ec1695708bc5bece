use Rattle.std.proofs.Common.{◌≡◌, ◌++◌, drop}
use Rattle.compile_function.specs.Emitted.{lists_of}
use Rattle.compile_function.proofs.lists.all_lists.Given as goal

abbrev pub invariant-loop-function : goal.invariant-loop-function
invariant-loop-function l = l.lists ++ lists_of (drop l.function-index l.functions) ≡ lists_of l.functions
