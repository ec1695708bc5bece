use Rattle.std.proofs.Common.{◌≡◌, ◌++◌, take}
use Rattle.std.specs.List.{flat_map}
use Rattle.dwarf_line.specs.Spelling.{text}
use Rattle.dwarf_line.proofs.write.push_dirs.Given as goal

abbrev pub invariant-loop-dir : goal.invariant-loop-dir
invariant-loop-dir l = l.out.items ≡ l.fn.out.items ++ flat_map text (take l.dir-index l.dirs)
