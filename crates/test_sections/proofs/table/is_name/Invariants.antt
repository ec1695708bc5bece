use Rattle.std.proofs.Common.{take}
use Rattle.dwarf_line.specs.Table.{IsName}
use Rattle.test_sections.proofs.table.is_name.Given as goal

abbrev pub invariant-loop-byte : goal.invariant-loop-byte
invariant-loop-byte l = IsName (take l.byte-index l.name)
