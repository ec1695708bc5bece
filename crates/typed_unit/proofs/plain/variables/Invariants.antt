use Rattle.std.proofs.Common.{◌≡◌, map, take}
use Rattle.typed_unit.specs.Plain.{plain_variable}
use Rattle.typed_unit.proofs.plain.variables.Given as goal

abbrev pub invariant-loop-entry : goal.invariant-loop-entry
invariant-loop-entry l = l.inside ≡ map plain_variable (take l.entry-index l.entries)
