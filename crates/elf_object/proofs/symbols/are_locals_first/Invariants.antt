use Rattle.std.specs.Prelude.{if◌then◌else◌}
use Rattle.std.proofs.Common.{◌≡◌, drop}
use Rattle.elf_object.specs.Symbols.{none_local, locals_first}
use Rattle.elf_object.proofs.symbols.are_locals_first.Given as goal

abbrev pub invariant-loop-symbol : goal.invariant-loop-symbol
invariant-loop-symbol l =
    (if l.others then none_local (drop l.symbol-index l.symbols) else locals_first (drop l.symbol-index l.symbols)) ≡ locals_first l.symbols
