use Rattle.std.proofs.Common.{◌≡◌, take}
use Rattle.elf_object.specs.Symbols.{symbol_names}
use Rattle.elf_object.proofs.symbols.write_symbol_names.Given as goal

abbrev pub invariant-loop-symbol : goal.invariant-loop-symbol
invariant-loop-symbol l = l.out.items ≡ symbol_names (take l.symbol-index l.symbols)
