use Rattle.std.proofs.Common.{◌≡◌, map, take}
use Rattle.typed_unit.specs.Plain.{plain_type}
use Rattle.typed_unit.proofs.plain.shapes.Given as goal

abbrev pub invariant-loop-entry : goal.invariant-loop-entry
invariant-loop-entry l = l.types ≡ map plain_type (take l.entry-index l.entries)
