use Rattle.std.proofs.Common.{◌≡◌, ◌++◌, drop}
use Rattle.program_entries.specs.Functions.{typed_functions}
use Rattle.program_entries.proofs.functions.typed_functions.Given as goal

abbrev pub invariant-loop-index : goal.invariant-loop-index
invariant-loop-index l =
    l.made ++ typed_functions l.debug l.types l.meta l.unit l.functions l.index (drop l.index l.entries)
    ≡ typed_functions l.debug l.types l.meta l.unit l.functions 0 l.entries
