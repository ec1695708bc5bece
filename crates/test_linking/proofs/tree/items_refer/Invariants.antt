use Rattle.std.proofs.Common.{All, take}
use Rattle.dwarf_entry.specs.Entries.{ItemRefersBelow}
use Rattle.test_linking.proofs.tree.items_refer.Given as goal

abbrev pub invariant-loop-item : goal.invariant-loop-item
invariant-loop-item l = All (ItemRefersBelow l.count) (take l.item-index l.items)
