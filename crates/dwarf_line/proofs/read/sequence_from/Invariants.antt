use Rattle.std.proofs.Common.{ℕ, true, List, ◌++◌, length}
use Rattle.dwarf_line.specs.declared.table.Row.{Row}
use Rattle.dwarf_line.specs.Table.{IsRow}
use Rattle.dwarf_line.specs.Spelling.{registers_at}
use Rattle.dwarf_line.specs.FirstFault.{Rows, RowsFault}
use Rattle.dwarf_line.proofs.read.sequence_from.Given as goal

abbrev pub invariant-loop-rows : goal.invariant-loop-rows
invariant-loop-rows l = record {
  fits : IsRow l.before;
  reads : (rows : List Row) (end : ℕ) (rest : List ℕ) → Rows l.first l.before l.rest rows end rest
      → Rows true (registers_at l.start) l.bytes (l.rows ++ rows) end rest;
  faults : (left : ℕ) → RowsFault l.first l.before l.rest left → RowsFault true (registers_at l.start) l.bytes left;
}

abbrev pub decreases-loop-rows : goal.decreases-loop-rows
decreases-loop-rows l = length l.rest
