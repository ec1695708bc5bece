use Rattle.std.specs.Prelude.{All}
use Rattle.std.proofs.Common.{take}
use Rattle.elf_object.specs.Grammar.{IsNamed}
use Rattle.elf_object.proofs.names.are_named.Given as goal

abbrev pub invariant-loop-section : goal.invariant-loop-section
invariant-loop-section l = All IsNamed (take l.section-index l.sections)
