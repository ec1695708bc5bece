use Rattle.std.proofs.Common.{◌≡◌}
use Rattle.elf_symbols.specs.steps.Told.{relocations_told}
use Rattle.elf_symbols.proofs.relocations.some_relocations.Given as goal

abbrev pub invariant-loop-index : goal.invariant-loop-index
invariant-loop-index l = l.relocations ≡ relocations_told l.bytes l.index
