use Rattle.std.proofs.Common.{All, take}
use Rattle.dwarf_frame.specs.Table.{IsDescription}
use Rattle.test_sections.proofs.frame_rows.are_descriptions.Given as goal

abbrev pub invariant-loop-function : goal.invariant-loop-function
invariant-loop-function l = All IsDescription (take l.function-index l.functions)
