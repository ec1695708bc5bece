use Rattle.std.specs.Prelude.{codes}
use Rattle.std.proofs.Common.{[], ◌∷◌}
use Rattle.elf_object.proofs.ContentLemmas.{table_more}
use Rattle.elf_object.proofs.write.names_table.Goals as goal

pub loop-section-preserved : goal.loop-section-preserved
loop-section-preserved c =
    table_more _ _ _ _ c.args.sections.now (codes ".shstrtab" ∷ []) _ _ c.loop-section-test.true c.section-item.is c.as_slice.ensures
    c.in_ok-push_text.ensures c.loop-section.invariant
