use Rattle.std.proofs.Common.{◌≡◌, drop}
use Rattle.dwarf_line.specs.Fields.{constants_at}
use Rattle.dwarf_frame.proofs.read.constants.Given as goal

abbrev pub invariant-loop-field : goal.invariant-loop-field
invariant-loop-field l = constants_at (drop l.field-index l.fields) l.rest ≡ constants_at l.fields l.bytes
