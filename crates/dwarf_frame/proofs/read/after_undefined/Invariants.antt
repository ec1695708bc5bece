use Rattle.std.proofs.Common.{◌≡◌, drop}
use Rattle.dwarf_line.specs.Fields.{constants_at}
use Rattle.dwarf_frame.specs.Spelling.{undefines}
use Rattle.dwarf_frame.proofs.read.after_undefined.Given as goal

abbrev pub invariant-loop-register : goal.invariant-loop-register
invariant-loop-register l = constants_at (undefines (drop l.register-index l.undefined)) l.rest ≡ constants_at (undefines l.undefined) l.bytes
