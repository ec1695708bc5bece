use Rattle.std.proofs.Common.{◌≡◌}
use Rattle.elf_symbols.specs.steps.Told.{symbols_told}
use Rattle.elf_symbols.proofs.symbols.some_symbols.Given as goal

abbrev pub invariant-loop-index : goal.invariant-loop-index
invariant-loop-index l = l.symbols ≡ symbols_told l.names l.table l.index
