use Rattle.std.proofs.Common.{All, take}
use Rattle.dwarf_line.specs.Table.{IsSequence}
use Rattle.test_sections.proofs.table.are_sequences.Given as goal

abbrev pub invariant-loop-sequence : goal.invariant-loop-sequence
invariant-loop-sequence l = All IsSequence (take l.sequence-index l.sequences)
