use Rattle.std.proofs.Common.{◌≡◌, ◌++◌, drop}
use Rattle.dwarf_sections.specs.Inlined.{range_lists}
use Rattle.dwarf_sections.proofs.inlined.range_lists.Given as goal

abbrev pub invariant-loop-within : goal.invariant-loop-within
invariant-loop-within l = l.lists ++ range_lists (drop l.within-index l.all) ≡ range_lists l.all
