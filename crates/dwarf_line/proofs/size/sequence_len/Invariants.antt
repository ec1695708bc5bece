use Rattle.std.proofs.Common.{◌≡◌, ◌+◌, length, drop}
use Rattle.dwarf_line.specs.Table.{Ascend}
use Rattle.dwarf_line.specs.Spelling.{rows_to, first_address, registers_at}
use Rattle.dwarf_base.specs.Size.{capped}
use Rattle.dwarf_line.proofs.size.sequence_len.Given as goal

abbrev pub invariant-loop-row : goal.invariant-loop-row
invariant-loop-row l = record {
  ascend : Ascend l.before.address (drop l.row-index l.rows) l.end;
  counted : capped (l.len + length (rows_to l.before (drop l.row-index l.rows) l.end)) ≡ capped
      (11 + length (rows_to (registers_at (first_address l.rows)) l.rows l.end));
}
