use Rattle.std.proofs.Common.{◌≡◌, ◌++◌, drop}
use Rattle.elf_load.specs.Load.{addresses}
use Rattle.elf_load.proofs.symbols.symbol_addresses.Given as goal

abbrev pub invariant-loop-symbol : goal.invariant-loop-symbol
invariant-loop-symbol l = l.addresses ++ addresses l.base l.left (drop l.symbol-index l.symbols) ≡ addresses l.base l.undefined l.symbols
