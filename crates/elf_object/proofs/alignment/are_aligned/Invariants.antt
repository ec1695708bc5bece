use Rattle.std.specs.Prelude.{All}
use Rattle.std.proofs.Common.{take}
use Rattle.elf_object.specs.Grammar.{IsAligned}
use Rattle.elf_object.proofs.alignment.are_aligned.Given as goal

abbrev pub invariant-loop-section : goal.invariant-loop-section
invariant-loop-section l = All IsAligned (take l.section-index l.sections)
