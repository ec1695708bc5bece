use Rattle.std.specs.Prelude.{All}
use Rattle.std.proofs.Common.{take}
use Rattle.elf_object.specs.Relocations.{FitsRelocation}
use Rattle.linkable_command.proofs.fits.fit.Given as goal

abbrev pub invariant-loop-relocation : goal.invariant-loop-relocation
invariant-loop-relocation l = All FitsRelocation (take l.relocation-index l.relocations)
