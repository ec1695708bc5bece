use Rattle.std.proofs.Common.{[], ◌∷◌, ◌++◌, ap, ◌∙◌}
use Rattle.elf_object.specs.declared.symbols.Symbol.{Symbol}
use Rattle.elf_linkable.proofs.Counting.{symbols_more}
use Rattle.elf_linkable.proofs.section.section_symbols.Goals as goal

pub loop-index-preserved : goal.loop-index-preserved
loop-index-preserved c =
    symbols_more c.args.sections.now c.loop-index.index c.loop-index.symbols c.push.new.self _ c.loop-index-test.true c.loop-index.invariant
    (c.in_ok-push.ensures.ok ∙ ap (λ (s : Symbol). c.loop-index.symbols ++ s ∷ []) c.section_symbol.ensures)
