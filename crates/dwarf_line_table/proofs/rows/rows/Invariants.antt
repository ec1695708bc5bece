use Rattle.std.proofs.Common.{drop}
use Rattle.dwarf_line_table.proofs.RowSteps.{SoFar}
use Rattle.dwarf_line_table.proofs.rows.rows.Given as goal

abbrev pub invariant-loop-entry : goal.invariant-loop-entry
invariant-loop-entry l = SoFar l.meta l.places l.initial.files l.files l.entries (drop l.entry-index l.entries) l.before l.rows
