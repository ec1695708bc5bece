use Rattle.std.specs.Prelude.{All}
use Rattle.std.proofs.Common.{take}
use Rattle.elf_object.specs.Relocations.{FitsRelocation}
use Rattle.linkable_command.proofs.fits.sections_fit.Given as goal

abbrev pub invariant-loop-section : goal.invariant-loop-section
invariant-loop-section l = All (λ s. All FitsRelocation s.content.relocations) (take l.section-index l.sections)
