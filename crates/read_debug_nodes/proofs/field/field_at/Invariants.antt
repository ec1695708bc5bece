use Rattle.std.proofs.Common.{◌≡◌, drop}
use Rattle.read_debug_nodes.specs.Field.{field_at}
use Rattle.read_debug_nodes.proofs.field.field_at.Given as goal

abbrev pub invariant-loop-field : goal.invariant-loop-field
invariant-loop-field l = field_at l.line l.key (drop l.field-index l.fields) ≡ field_at l.line l.key l.fields
