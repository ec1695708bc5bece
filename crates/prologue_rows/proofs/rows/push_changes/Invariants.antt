use Rattle.std.proofs.Common.{◌≡◌, ◌++◌, drop, None}
use Rattle.dwarf_line_table.specs.Table.{changes}
use Rattle.prologue_rows.proofs.rows.push_changes.Given as goal

abbrev pub invariant-loop-row : goal.invariant-loop-row
invariant-loop-row l = l.kept ++ changes l.before (drop l.row-index l.rows) ≡ l.initial.kept ++ changes None l.rows
