use Rattle.std.proofs.Common.{◌≡◌, drop}
use Rattle.dwarf_entry.specs.Declarations.{abbreviation_of, is_declared}
use Rattle.dwarf_entry.proofs.abbreviation.has_abbreviation.Given as goal

abbrev pub invariant-loop-abbreviation : goal.invariant-loop-abbreviation
invariant-loop-abbreviation l =
    is_declared (abbreviation_of l.entry) (drop l.abbreviation-index l.abbreviations) ≡ is_declared (abbreviation_of l.entry) l.abbreviations
