use Rattle.std.specs.Prelude.{All}
use Rattle.dwarf_line.specs.Table.{IsNumbered}
use Rattle.std.proofs.Common.{◌≡◌, ◌++◌, take}
use Rattle.std.specs.List.{flat_map}
use Rattle.dwarf_line.specs.Spelling.{file}
use Rattle.dwarf_line.proofs.write.push_files.Given as goal

abbrev pub invariant-loop-file : goal.invariant-loop-file
invariant-loop-file l = record {
  written : l.out.items ≡ l.fn.out.items ++ flat_map file (take l.file-index l.files);
  numbers : All IsNumbered (take l.file-index l.files);
}
