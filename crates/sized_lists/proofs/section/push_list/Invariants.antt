use Rattle.std.proofs.Common.{◌≡◌, ◌++◌, take}
use Rattle.std.specs.List.{flat_map}
use Rattle.sized_lists.specs.Spelling.{entry}
use Rattle.sized_lists.proofs.section.push_list.Given as goal

abbrev pub invariant-loop-range : goal.invariant-loop-range
invariant-loop-range l = l.out.items ≡ l.fn.out.items ++ flat_map (entry l.size) (take l.range-index l.ranges)
