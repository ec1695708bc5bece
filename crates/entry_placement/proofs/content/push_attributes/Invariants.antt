use Rattle.std.proofs.Common.{take}
use Rattle.std.specs.List.{flat_map}
use Rattle.dwarf_entry.specs.steps.Offsets.{in_table}
use Rattle.entry_placement.specs.Pieces.{attribute_pieces}
use Rattle.entry_placement.proofs.Growth.{Grows}
use Rattle.entry_placement.proofs.content.push_attributes.Given as goal

abbrev pub invariant-loop-attribute : goal.invariant-loop-attribute
invariant-loop-attribute l =
    Grows l.fn.bytes.items l.fn.relocations (flat_map (attribute_pieces l.symbols (in_table l.offsets)) (take l.attribute-index l.attributes)) l.bytes.items
    l.relocations
