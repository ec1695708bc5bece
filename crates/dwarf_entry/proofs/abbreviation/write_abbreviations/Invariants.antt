use Rattle.std.proofs.Common.{◌≡◌, ◌+◌, ◌++◌, drop}
use Rattle.dwarf_entry.specs.Declarations.{declarations_from, abbreviation_section}
use Rattle.dwarf_entry.proofs.abbreviation.write_abbreviations.Given as goal

abbrev pub invariant-loop-i : goal.invariant-loop-i
invariant-loop-i l = l.out.items ++ declarations_from (l.i + 1) (drop l.i l.abbreviations) ≡ abbreviation_section l.abbreviations
