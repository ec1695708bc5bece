use Rattle.std.proofs.Common.{◌≡◌, length, take}
use Rattle.dwarf_line.specs.Spelling.{program}
use Rattle.dwarf_base.specs.Size.{capped}
use Rattle.dwarf_line.proofs.size.program_len.Given as goal

abbrev pub invariant-loop-sequence : goal.invariant-loop-sequence
invariant-loop-sequence l = l.len ≡ capped (length (program (take l.sequence-index l.sequences)))
