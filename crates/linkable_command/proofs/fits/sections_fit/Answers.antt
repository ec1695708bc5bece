use Rattle.std.specs.Prelude.{All}
use Rattle.std.proofs.Common.{sym, subst}
use Rattle.std.proofs.lemmas.List.{take_all}
use Rattle.std.proofs.lemmas.List.Elements.{All-more, All-same}
use Rattle.elf_linkable.specs.declared.section.LinkableSection.{LinkableSection}
use Rattle.elf_object.specs.Relocations.{FitsRelocation}
use Rattle.linkable_command.proofs.fits.sections_fit.Goals as goal

pub loop-section-preserved : goal.loop-section-preserved
loop-section-preserved c =
    All-more (λ (s : LinkableSection). All FitsRelocation s.content.relocations) c.args.sections.now c.loop-section.section-index c.section-item.result
    c.loop-section-test.true c.loop-section.invariant
    (subst (λ (s : LinkableSection). All FitsRelocation s.content.relocations) c.section-item.is (subst (All FitsRelocation) c.as_slice.ensures c.fit.ensures))

pub returns : goal.returns
returns c =
    All-same (λ (s : LinkableSection). All FitsRelocation s.content.relocations) _ _ (sym (take_all _ _ c.loop-section-test.false)) c.loop-section.invariant
