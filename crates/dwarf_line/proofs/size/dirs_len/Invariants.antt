use Rattle.std.proofs.Common.{◌≡◌, length, take}
use Rattle.std.specs.List.{flat_map}
use Rattle.dwarf_line.specs.Spelling.{text}
use Rattle.dwarf_base.specs.Size.{capped}
use Rattle.dwarf_line.proofs.size.dirs_len.Given as goal

abbrev pub invariant-loop-dir : goal.invariant-loop-dir
invariant-loop-dir l = l.len ≡ capped (length (flat_map text (take l.dir-index l.dirs)))
