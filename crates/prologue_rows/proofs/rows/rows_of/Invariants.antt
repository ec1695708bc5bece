use Rattle.std.proofs.Common.{[], drop}
use Rattle.prologue_rows.proofs.Numbered.{Numbered}
use Rattle.prologue_rows.specs.Rows.{line_file}
use Rattle.prologue_rows.proofs.RowWith.{row_with}
use Rattle.prologue_rows.proofs.rows.rows_of.Given as goal

abbrev pub invariant-loop-line : goal.invariant-loop-line
invariant-loop-line l = Numbered (line_file l.meta l.unit) row_with l.initial.files l.files l.lines (drop l.line-index l.lines) [] l.rows
