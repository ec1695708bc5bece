use Rattle.std.proofs.Common.{◌≡◌, ◌+◌, ◌++◌, drop}
use Rattle.dwarf_frame.specs.Table.{initial, AreRows}
use Rattle.dwarf_frame.specs.Spelling.{rows_after}
use Rattle.dwarf_frame.proofs.write.push_rows.Given as goal

abbrev pub invariant-loop-row : goal.invariant-loop-row
invariant-loop-row l = record {
  are : AreRows l.before (drop l.row-index l.function.rows) (l.function.start + l.function.size);
  written : l.out.items ++ rows_after l.before (drop l.row-index l.function.rows) ≡ l.fn.out.items ++ rows_after (initial l.function.start) l.function.rows;
}
