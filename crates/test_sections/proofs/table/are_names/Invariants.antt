use Rattle.std.proofs.Common.{All, take}
use Rattle.dwarf_line.specs.Table.{IsName}
use Rattle.test_sections.proofs.table.are_names.Given as goal

abbrev pub invariant-loop-name : goal.invariant-loop-name
invariant-loop-name l = All IsName (take l.name-index l.names)
