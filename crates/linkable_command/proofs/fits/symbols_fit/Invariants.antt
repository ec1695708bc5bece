use Rattle.std.specs.Prelude.{All}
use Rattle.std.proofs.Common.{take}
use Rattle.elf_object.specs.Symbols.{FitsSymbol}
use Rattle.linkable_command.proofs.fits.symbols_fit.Given as goal

abbrev pub invariant-loop-symbol : goal.invariant-loop-symbol
invariant-loop-symbol l = All FitsSymbol (take l.symbol-index l.symbols)
