use Rattle.std.proofs.Common.{All, take}
use Rattle.dwarf_entry.specs.Entries.{AttributeRefersBelow}
use Rattle.test_linking.proofs.tree.attributes_refer.Given as goal

abbrev pub invariant-loop-attribute : goal.invariant-loop-attribute
invariant-loop-attribute l = All (AttributeRefersBelow l.count) (take l.attribute-index l.attributes)
