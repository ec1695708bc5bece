use Rattle.std.proofs.Common.{All, take}
use Rattle.dwarf_rnglists.specs.Ranges.{Ascend}
use Rattle.test_sections.proofs.range_lists.all_ascend.Given as goal

abbrev pub invariant-loop-list : goal.invariant-loop-list
invariant-loop-list l = All Ascend (take l.list-index l.lists)
