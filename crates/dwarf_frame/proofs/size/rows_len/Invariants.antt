use Rattle.std.proofs.Common.{◌≡◌, ◌+◌, ◌^◌, ◌<◌, length, drop}
use Rattle.dwarf_base.specs.Size.{capped}
use Rattle.dwarf_frame.specs.Table.{initial, AreRows}
use Rattle.dwarf_frame.specs.Spelling.{rows_after}
use Rattle.dwarf_frame.proofs.size.rows_len.Given as goal

abbrev pub invariant-loop-row : goal.invariant-loop-row
invariant-loop-row l = record {
  are : AreRows l.before (drop l.row-index l.function.rows) (l.function.start + l.function.size);
  fits : l.len < 2 ^ 64;
  counted : capped (l.len + length (rows_after l.before (drop l.row-index l.function.rows)))
      ≡ capped (length (rows_after (initial l.function.start) l.function.rows));
}
