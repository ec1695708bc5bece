use Rattle.std.proofs.Common.{◌≡◌, ◌++◌, map, take}
use Rattle.type_entries.specs.Entries.{subrange_item}
use Rattle.type_entries.proofs.members.push_subranges.Given as goal

abbrev pub invariant-loop-count : goal.invariant-loop-count
invariant-loop-count l = l.tree ≡ l.initial.tree ++ map subrange_item (take l.count-index l.counts)
