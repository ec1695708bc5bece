use Rattle.std.proofs.Common.{◌≡◌, ◌+◌, drop}
use Rattle.dwarf_entry.specs.Declarations.{abbreviation_of, code_from}
use Rattle.dwarf_entry.proofs.abbreviation.code_of.Given as goal

abbrev pub invariant-loop-i : goal.invariant-loop-i
invariant-loop-i l =
    code_from (l.i + 1) (drop l.i l.abbreviations) (abbreviation_of l.entry) ≡ code_from 1 l.abbreviations (abbreviation_of l.entry)
