use Rattle.std.proofs.Common.{◌≡◌}
use Rattle.elf_object.specs.steps.Told.{sections_told}
use Rattle.elf_object.proofs.read.sections.Given as goal

abbrev pub invariant-loop-index : goal.invariant-loop-index
invariant-loop-index l = l.sections ≡ sections_told l.bytes l.index
