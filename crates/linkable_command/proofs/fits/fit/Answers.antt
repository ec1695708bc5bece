use Rattle.std.proofs.Common.{sym}
use Rattle.std.proofs.lemmas.List.{take_all}
use Rattle.std.proofs.lemmas.List.Elements.{All-more, All-same}
use Rattle.elf_object.specs.Relocations.{FitsRelocation}
use Rattle.linkable_command.proofs.fits.fit.Goals as goal

pub loop-relocation-preserved : goal.loop-relocation-preserved
loop-relocation-preserved c = All-more FitsRelocation _ _ _ c.loop-relocation-test.true c.loop-relocation.invariant c.fits.ensures

pub returns : goal.returns
returns c = All-same FitsRelocation _ _ (sym (take_all _ _ c.loop-relocation-test.false)) c.loop-relocation.invariant
