use Rattle.std.proofs.Common.{◌≡◌, ◌++◌, take}
use Rattle.dwarf_entry.specs.Entries.{tree_bytes}
use Rattle.dwarf_entry.specs.steps.Offsets.{in_table}
use Rattle.dwarf_entry.proofs.write.push_items.Given as goal

abbrev pub invariant-loop-item : goal.invariant-loop-item
invariant-loop-item l = l.out.items ≡ l.fn.out.items ++ tree_bytes l.abbreviations (in_table l.offsets) (take l.item-index l.tree)
