use Rattle.std.proofs.Common.{sym, refl, subst}
use Rattle.std.proofs.lemmas.List.{take_all}
use Rattle.std.proofs.lemmas.List.Elements.{All-more, All-same}
use Rattle.elf_object.specs.Grammar.{IsAligned}
use Rattle.elf_object.proofs.alignment.are_aligned.Goals as goal

pub loop-section-preserved : goal.loop-section-preserved
loop-section-preserved c =
    All-more IsAligned c.args.sections.now c.loop-section.section-index c.section-item.result c.loop-section-test.true c.loop-section.invariant
    (subst IsAligned c.section-item.is (c.is_aligned.ensures.0 c.if-not-is_aligned.false))

pub returns : goal.returns
returns c =
    ((λ _. All-same IsAligned _ _ (sym (take_all _ _ c.loop-section-test.false)) c.loop-section.invariant), λ _. refl)
