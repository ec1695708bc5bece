use Rattle.std.proofs.Common.{◌≡◌, take, Some}
use Rattle.read_metadata.specs.Field.{at_most_one, values_at}
use Rattle.read_metadata.proofs.field.only_value.Given as goal

abbrev pub invariant-loop-field : goal.invariant-loop-field
invariant-loop-field l = Some l.found ≡ at_most_one (values_at l.line l.key (take l.field-index l.fields))
