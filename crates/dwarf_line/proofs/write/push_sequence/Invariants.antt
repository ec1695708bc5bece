use Rattle.std.specs.Prelude.{All}
use Rattle.std.proofs.Common.{◌≡◌, ◌++◌, take, drop}
use Rattle.dwarf_line.specs.Table.{Ascend, IsRow}
use Rattle.dwarf_line.specs.Spelling.{rows_to, sequence}
use Rattle.dwarf_line.proofs.write.push_sequence.Given as goal

abbrev pub invariant-loop-row : goal.invariant-loop-row
invariant-loop-row l = record {
  ascend : Ascend l.before.address (drop l.row-index l.rows) l.end;
  written : l.out.items ++ rows_to l.before (drop l.row-index l.rows) l.end ≡ l.fn.out.items ++ sequence (record { rows = l.rows; end = l.end });
  ranges : All IsRow (take l.row-index l.rows);
}
