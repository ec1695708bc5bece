use Rattle.std.proofs.Common.{◌≡◌, drop}
use Rattle.dwarf_line.specs.Fields.{constants_at}
use Rattle.dwarf_frame.specs.Spelling.{restores}
use Rattle.dwarf_frame.proofs.read.after_restores.Given as goal

abbrev pub invariant-loop-register : goal.invariant-loop-register
invariant-loop-register l = constants_at (restores l.register (drop l.register l.saved)) l.rest ≡ constants_at (restores 0 l.saved) l.bytes
