use Rattle.std.proofs.Common.{◌≡◌, drop}
use Rattle.dwarf_entry.specs.Declarations.{abbreviations_of, abbreviations_from}
use Rattle.dwarf_entry.proofs.abbreviation.abbreviations_of.Given as goal

abbrev pub invariant-loop-item : goal.invariant-loop-item
invariant-loop-item l = abbreviations_from l.out.items (drop l.item-index l.tree) ≡ abbreviations_of l.tree
