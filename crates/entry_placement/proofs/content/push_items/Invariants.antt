use Rattle.std.proofs.Common.{take}
use Rattle.dwarf_entry.specs.steps.Offsets.{in_table}
use Rattle.entry_placement.specs.Pieces.{tree_pieces}
use Rattle.entry_placement.proofs.Growth.{Grows}
use Rattle.entry_placement.proofs.content.push_items.Given as goal

abbrev pub invariant-loop-item : goal.invariant-loop-item
invariant-loop-item l =
    Grows l.fn.bytes.items l.fn.relocations (tree_pieces l.symbols l.abbreviations (in_table l.offsets) (take l.item-index l.tree)) l.bytes.items
    l.relocations
