use Rattle.std.proofs.Common.{◌≡◌, ◌++◌, take}
use Rattle.std.specs.List.{flat_map}
use Rattle.dwarf_entry.specs.Entries.{attribute_bytes}
use Rattle.dwarf_entry.specs.steps.Offsets.{in_table}
use Rattle.dwarf_entry.proofs.write.push_attributes.Given as goal

abbrev pub invariant-loop-attribute : goal.invariant-loop-attribute
invariant-loop-attribute l = l.out.items ≡ l.fn.out.items ++ flat_map (attribute_bytes (in_table l.offsets)) (take l.attribute-index l.attributes)
