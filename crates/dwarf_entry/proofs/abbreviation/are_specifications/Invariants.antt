use Rattle.std.proofs.Common.{◌≡◌, map, drop}
use Rattle.dwarf_entry.specs.Declarations.{specification_of, same_specifications}
use Rattle.dwarf_entry.proofs.abbreviation.are_specifications.Given as goal

abbrev pub invariant-loop-i : goal.invariant-loop-i
invariant-loop-i l =
    same_specifications (drop l.i l.specifications) (map specification_of (drop l.i l.attributes))
    ≡ same_specifications l.specifications (map specification_of l.attributes)
