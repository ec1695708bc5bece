use Rattle.std.proofs.Common.{◌≡◌, ◌-◌}
use Rattle.read_line.specs.Attribute.{no_fields, fields_at}
use Rattle.read_line.proofs.attribute.all_fields.Given as goal

abbrev pub invariant-loop : goal.invariant-loop
invariant-loop l = fields_at (4 - l.counter) l.fields l.rest ≡ fields_at 4 no_fields l.lexemes
