use Rattle.std.proofs.Common.{All, take}
use Rattle.dwarf_frame.specs.Table.{MayBeLost}
use Rattle.test_sections.proofs.frame_rows.may_be_all_lost.Given as goal

abbrev pub invariant-loop-register : goal.invariant-loop-register
invariant-loop-register l = All MayBeLost (take l.register-index l.registers)
