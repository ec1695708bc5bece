use Rattle.std.proofs.Common.{◌≡◌, ◌++◌, drop}
use Rattle.dwarf_frame.specs.Spelling.{restores}
use Rattle.dwarf_frame.proofs.write.push_restores.Given as goal

abbrev pub invariant-loop-register : goal.invariant-loop-register
invariant-loop-register l = l.out.items ++ restores l.register (drop l.register l.saved) ≡ l.fn.out.items ++ restores 0 l.saved
