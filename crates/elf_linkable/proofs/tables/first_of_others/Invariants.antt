use Rattle.std.specs.Prelude.{count_by}
use Rattle.std.proofs.Common.{◌≡◌, ◌+◌, take}
use Rattle.elf_object.specs.Symbols.{is_local}
use Rattle.elf_linkable.proofs.tables.first_of_others.Given as goal

abbrev pub invariant-loop-symbol : goal.invariant-loop-symbol
invariant-loop-symbol l = l.count ≡ 1 + count_by (λ s. is_local s.binding) (take l.symbol-index l.symbols)
