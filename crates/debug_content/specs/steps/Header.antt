-- The header of the section of a line number table.
use Rattle.std.specs.Prelude.{ℕ, ◌+◌, List, ◌++◌, length}
use Rattle.dwarf_line.specs.declared.table.LineTable.{LineTable}
use Rattle.dwarf_line.specs.Spelling.{header, tables, program}

abbrev pub header_of : LineTable → List ℕ
header_of t = header (8 + length (tables t) + length (program t.sequences)) (length (tables t)) ++ tables t
