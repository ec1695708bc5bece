use Rattle.std.proofs.Common.{All, take}
use Rattle.linkable_command.specs.entry_placement.dwarf_entry.Entries.{ItemRefersBelow}
use Rattle.test_sections.proofs.entry_tree.items_refer.Given as goal

abbrev pub invariant-loop-item : goal.invariant-loop-item
invariant-loop-item l = All (ItemRefersBelow l.count) (take l.item-index l.items)
