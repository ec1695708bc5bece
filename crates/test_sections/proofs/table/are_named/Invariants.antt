use Rattle.std.proofs.Common.{All, take}
use Rattle.dwarf_line.specs.Table.{IsNamed}
use Rattle.test_sections.proofs.table.are_named.Given as goal

abbrev pub invariant-loop-file : goal.invariant-loop-file
invariant-loop-file l = All IsNamed (take l.file-index l.files)
