use Rattle.std.proofs.Common.{sym, subst}
use Rattle.std.proofs.lemmas.List.{take_all}
use Rattle.std.proofs.lemmas.List.Elements.{All-get_or, All-more, All-same}
use Rattle.elf_object.specs.declared.symbols.Symbol.{Symbol}
use Rattle.elf_object.specs.Grammar.{IsName}
use Rattle.elf_object.specs.Symbols.{FitsSymbol}
use Rattle.linkable_command.proofs.fits.symbols_fit.Goals as goal

pub symbol_fits-requires : goal.symbol_fits-requires
symbol_fits-requires c =
    subst (λ (s : Symbol). IsName s.name) (sym c.symbol-item.is)
    (All-get_or (λ (s : Symbol). IsName s.name) c.args.symbols.now c.loop-symbol.symbol-index c.symbol-item.result c.loop-symbol-test.true c.requires)

pub loop-symbol-preserved : goal.loop-symbol-preserved
loop-symbol-preserved c =
    All-more FitsSymbol c.args.symbols.now c.loop-symbol.symbol-index c.symbol-item.result c.loop-symbol-test.true
    c.loop-symbol.invariant (subst FitsSymbol c.symbol-item.is c.symbol_fits.ensures)

pub returns : goal.returns
returns c = All-same FitsSymbol _ _ (sym (take_all _ _ c.loop-symbol-test.false)) c.loop-symbol.invariant
