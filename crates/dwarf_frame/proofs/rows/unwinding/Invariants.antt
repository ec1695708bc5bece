use Rattle.std.proofs.Common.{◌≡◌, length, take}
use Rattle.dwarf_frame.specs.Rows.{rules_from}
use Rattle.dwarf_frame.proofs.rows.unwinding.Given as goal

abbrev pub invariant-loop-register : goal.invariant-loop-register
invariant-loop-register l = record {
  count : length l.registers ≡ 32;
  are : take l.register l.registers ≡ rules_from l.undefined 0 (take l.register l.row.saved);
}
