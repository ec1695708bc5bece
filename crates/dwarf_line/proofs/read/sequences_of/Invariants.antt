use Rattle.std.proofs.Common.{ℕ, List, ◌++◌, length}
use Rattle.dwarf_line.specs.declared.table.Sequence.{Sequence}
use Rattle.dwarf_line.specs.FirstFault.{Program, ProgramFault}
use Rattle.dwarf_line.proofs.Fixed.{IsBytes}
use Rattle.dwarf_line.proofs.read.sequences_of.Given as goal

abbrev pub invariant-loop-rest : goal.invariant-loop-rest
invariant-loop-rest l = record {
  are : IsBytes l.rest;
  reads : (sequences : List Sequence) → Program l.rest sequences → Program l.bytes (l.sequences ++ sequences);
  faults : (left : ℕ) → ProgramFault l.rest left → ProgramFault l.bytes left;
}

abbrev pub decreases-loop-rest : goal.decreases-loop-rest
decreases-loop-rest l = length l.rest
