use Rattle.std.proofs.Common.{◌≡◌, ◌+◌, take, length}
use Rattle.std.specs.List.{flat_map}
use Rattle.dwarf_rnglists.specs.Spelling.{entry}
use Rattle.dwarf_rnglists.proofs.section.with_list.Given as goal

abbrev pub invariant-loop-range : goal.invariant-loop-range
invariant-loop-range l = l.size ≡ l.before + 5 + length (flat_map entry (take l.range-index l.ranges))
