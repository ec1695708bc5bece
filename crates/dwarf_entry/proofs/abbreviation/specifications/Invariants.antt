use Rattle.std.proofs.Common.{◌≡◌, map, take}
use Rattle.dwarf_entry.specs.Declarations.{specification_of}
use Rattle.dwarf_entry.proofs.abbreviation.specifications.Given as goal

abbrev pub invariant-loop-attribute : goal.invariant-loop-attribute
invariant-loop-attribute l = l.out.items ≡ map specification_of (take l.attribute-index l.attributes)
