use Rattle.std.proofs.Common.{◌≡◌, map, take}
use Rattle.typed_unit.specs.Plain.{plain_function}
use Rattle.typed_unit.proofs.plain.functions.Given as goal

abbrev pub invariant-loop-entry : goal.invariant-loop-entry
invariant-loop-entry l = l.functions ≡ map plain_function (take l.entry-index l.entries)
