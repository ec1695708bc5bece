use Rattle.std.proofs.Common.{◌≡◌, length, take}
use Rattle.std.specs.List.{flat_map}
use Rattle.dwarf_line.specs.Spelling.{file}
use Rattle.dwarf_base.specs.Size.{capped}
use Rattle.dwarf_line.proofs.size.files_len.Given as goal

abbrev pub invariant-loop-file : goal.invariant-loop-file
invariant-loop-file l = l.len ≡ capped (length (flat_map file (take l.file-index l.files)))
