use Rattle.std.proofs.Common.{All, take}
use Rattle.linkable_command.specs.entry_placement.dwarf_entry.Entries.{AttributeRefersBelow}
use Rattle.test_sections.proofs.entry_tree.attributes_refer.Given as goal

abbrev pub invariant-loop-attribute : goal.invariant-loop-attribute
invariant-loop-attribute l = All (AttributeRefersBelow l.count) (take l.attribute-index l.attributes)
