use Rattle.std.specs.List.{flat_map}
use Rattle.std.proofs.Common.{◌≡◌, ◌+◌, ◌^◌, ◌<◌, length, drop}
use Rattle.elf_object.specs.declared.symbols.Symbol.{Symbol}
use Rattle.elf_object.specs.Symbols.{name_text, symbol_names}
use Rattle.elf_object.proofs.symbols.symbol_names_size.Given as goal

abbrev pub invariant-loop-symbol : goal.invariant-loop-symbol
invariant-loop-symbol l = record {
  counted : l.size + length (flat_map (λ (s : Symbol). name_text s.name) (drop l.symbol-index l.symbols)) ≡ length (symbol_names l.symbols);
  small : l.size < 2 ^ 31;
}
