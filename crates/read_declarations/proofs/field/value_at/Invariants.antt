use Rattle.std.proofs.Common.{◌≡◌, drop}
use Rattle.read_declarations.specs.Field.{value_at}
use Rattle.read_declarations.proofs.field.value_at.Given as goal

abbrev pub invariant-loop-field : goal.invariant-loop-field
invariant-loop-field l = value_at l.lines l.key (drop l.field-index l.fields) ≡ value_at l.lines l.key l.fields
