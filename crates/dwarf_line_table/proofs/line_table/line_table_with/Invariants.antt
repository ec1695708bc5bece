use Rattle.std.proofs.Common.{drop}
use Rattle.std.specs.Prelude.{All}
use Rattle.dwarf_line.specs.Table.{IsSequence}
use Rattle.dwarf_line_table.proofs.SourceTables.{TableSoFar}
use Rattle.dwarf_line_table.proofs.line_table.line_table_with.Given as goal

abbrev pub invariant-loop-function : goal.invariant-loop-function
invariant-loop-function l = record {
  so : TableSoFar l.meta l.unit l.functions (drop l.function-index l.functions) l.files l.sequences;
  are : All IsSequence l.sequences;
}
