use Rattle.std.proofs.Common.{◌≡◌, ◌++◌, drop}
use Rattle.dwarf_frame.specs.Spelling.{saves}
use Rattle.dwarf_frame.proofs.write.push_saves.Given as goal

abbrev pub invariant-loop-register : goal.invariant-loop-register
invariant-loop-register l = l.out.items ++ saves l.register (drop l.register l.saved) ≡ l.fn.out.items ++ saves 0 l.saved
