use Rattle.std.proofs.Common.{◌≡◌, ◌++◌, drop}
use Rattle.program_entries.specs.Variables.{typed_variables}
use Rattle.program_entries.proofs.variables.typed_variables.Given as goal

abbrev pub invariant-loop-index : goal.invariant-loop-index
invariant-loop-index l =
    l.inside ++ typed_variables l.debug l.types l.unit l.entries l.index (drop l.index l.variables)
    ≡ typed_variables l.debug l.types l.unit l.entries 0 l.variables
