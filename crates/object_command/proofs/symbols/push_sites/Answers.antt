use Rattle.std.proofs.Common.{[], List, map, take, drop, ap, ◌∙◌, append-nil}
use Rattle.std.proofs.lemmas.List.{take_all}
use Rattle.elf_object.specs.declared.symbols.Symbol.{Symbol}
use Rattle.object_command.specs.declared.calls.CallSite.{CallSite}
use Rattle.object_command.specs.Object.{undefined_symbol, relocation_of}
use Rattle.object_command.proofs.SymbolLemmas.{too_many}
use Rattle.object_command.proofs.symbols.push_sites.Goals as goal

pub returns-then-len-ge-MAX_SYMBOLS-clause-too_large : goal.returns-then-len-ge-MAX_SYMBOLS-clause-too_large
returns-then-len-ge-MAX_SYMBOLS-clause-too_large c = λ _.
    too_many c.loop-site.symbols (map undefined_symbol (drop c.loop-site.site-index c.args.sites.now)) _ c.len.result
    c.if-len-ge-MAX_SYMBOLS.true c.len.ensures c.loop-site.invariant.used

pub returns-clause-relocations : goal.returns-clause-relocations
returns-clause-relocations c =
    c.loop-site.invariant.made []
    ∙ ap (λ (ss : List Symbol). map (relocation_of ss) (take c.loop-site.site-index c.args.sites.now)) (append-nil c.loop-site.symbols)
    ∙ ap (λ (cs : List CallSite). map (relocation_of c.loop-site.symbols) cs)
    (take_all _ _ c.loop-site-test.false)
