use Rattle.std.proofs.Common.{◌≡◌, ◌++◌, drop}
use Rattle.dwarf_frame.specs.Spelling.{undefines}
use Rattle.dwarf_frame.proofs.write.push_undefined.Given as goal

abbrev pub invariant-loop-register : goal.invariant-loop-register
invariant-loop-register l = l.out.items ++ undefines (drop l.register-index l.undefined) ≡ l.fn.out.items ++ undefines l.undefined
