use Rattle.std.proofs.Common.{◌≡◌, ◌++◌, map, take}
use Rattle.dwarf_sections.proofs.inlined.push_ranges.Given as goal

abbrev pub invariant-loop-instance : goal.invariant-loop-instance
invariant-loop-instance l = l.lists ≡ l.fn.lists ++ map (λ i. i.ranges) (take l.instance-index l.instances)
