use Rattle.std.proofs.Common.{◌≡◌, ◌++◌, map, take}
use Rattle.type_entries.specs.Entries.{enumerator_item}
use Rattle.type_entries.proofs.members.push_enumerators.Given as goal

abbrev pub invariant-loop-enumerator : goal.invariant-loop-enumerator
invariant-loop-enumerator l = l.tree ≡ l.initial.tree ++ map enumerator_item (take l.enumerator-index l.enumerators)
