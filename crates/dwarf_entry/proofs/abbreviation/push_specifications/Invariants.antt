use Rattle.std.proofs.Common.{◌≡◌, ◌++◌, take}
use Rattle.std.specs.List.{flat_map}
use Rattle.dwarf_entry.specs.Declarations.{specification}
use Rattle.dwarf_entry.proofs.abbreviation.push_specifications.Given as goal

abbrev pub invariant-loop-s : goal.invariant-loop-s
invariant-loop-s l = l.out.items ≡ l.fn.out.items ++ flat_map specification (take l.s-index l.specifications)
