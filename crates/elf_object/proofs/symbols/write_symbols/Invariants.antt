use Rattle.std.specs.List.{flat_map}
use Rattle.std.proofs.Common.{◌≡◌, ◌+◌, ◌++◌, length, drop}
use Rattle.elf_object.specs.declared.symbols.Symbol.{Symbol}
use Rattle.elf_object.specs.Symbols.{name_text, symbols_from, symbol_names, symbol_table}
use Rattle.elf_object.proofs.symbols.write_symbols.Given as goal

abbrev pub invariant-loop-symbol : goal.invariant-loop-symbol
invariant-loop-symbol l = record {
  written : l.out.items ++ symbols_from l.at (drop l.symbol-index l.symbols) ≡ symbol_table l.symbols;
  named : l.at + length (flat_map (λ (s : Symbol). name_text s.name) (drop l.symbol-index l.symbols)) ≡ length (symbol_names l.symbols);
}
