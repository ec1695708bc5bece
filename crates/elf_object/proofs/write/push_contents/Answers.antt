use Rattle.elf_object.proofs.ContentLemmas.{contents_more}
use Rattle.elf_object.proofs.write.push_contents.Goals as goal

pub loop-section-preserved : goal.loop-section-preserved
loop-section-preserved c =
    contents_more _ _ _ c.args.sections.now _ _ c.args.last.now c.loop-section-test.true c.section-item.is c.in_ok-push_bytes.ensures
    c.loop-section.invariant
