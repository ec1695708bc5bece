use Rattle.std.proofs.Common.{drop}
use Rattle.prologue_rows.proofs.Tables.{TableSoFar}
use Rattle.prologue_rows.proofs.table.line_table.Given as goal

abbrev pub invariant-loop-function : goal.invariant-loop-function
invariant-loop-function l = TableSoFar l.meta l.unit l.functions (drop l.function-index l.functions) l.files l.sequences l.numbers
