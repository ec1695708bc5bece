use Rattle.std.proofs.Common.{◌≡◌, ◌++◌, drop}
use Rattle.linkable_command.specs.References.{references}
use Rattle.linkable_command.proofs.reference.references.Given as goal

abbrev pub invariant-loop-function : goal.invariant-loop-function
invariant-loop-function l = l.made ++ references (drop l.function-index l.functions) ≡ references l.functions
