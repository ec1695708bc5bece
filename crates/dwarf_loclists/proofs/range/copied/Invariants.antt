use Rattle.std.proofs.Common.{◌≡◌, take}
use Rattle.dwarf_loclists.proofs.range.copied.Given as goal

abbrev pub invariant-loop-range : goal.invariant-loop-range
invariant-loop-range l = l.made ≡ take l.range-index l.ranges
