use Rattle.std.proofs.Common.{[], List, map, take, drop, ap, ◌∙◌, append-nil}
use Rattle.std.proofs.lemmas.List.{take_all}
use Rattle.elf_object.specs.declared.symbols.Symbol.{Symbol}
use Rattle.object_command.proofs.SymbolLemmas.{too_many}
use Rattle.linkable_command.specs.declared.reference.Reference.{Reference}
use Rattle.linkable_command.specs.Symbols.{undefined_symbol, relocation_by}
use Rattle.linkable_command.proofs.symbols.push_references.Goals as goal

pub returns-then-len-ge-MAX_SYMBOLS-clause-too_large : goal.returns-then-len-ge-MAX_SYMBOLS-clause-too_large
returns-then-len-ge-MAX_SYMBOLS-clause-too_large c = λ _.
    too_many c.loop-reference.symbols (map undefined_symbol (drop c.loop-reference.reference-index c.args.referred.now)) _ c.len.result
    c.if-len-ge-MAX_SYMBOLS.true c.len.ensures c.loop-reference.invariant.used

pub returns-clause-relocations : goal.returns-clause-relocations
returns-clause-relocations c =
    c.loop-reference.invariant.made []
    ∙ ap (λ (ss : List Symbol). map (relocation_by c.args.before ss) (take c.loop-reference.reference-index c.args.referred.now))
    (append-nil c.loop-reference.symbols)
    ∙ ap (λ (rs : List Reference). map (relocation_by c.args.before c.loop-reference.symbols) rs) (take_all _ _ c.loop-reference-test.false)
