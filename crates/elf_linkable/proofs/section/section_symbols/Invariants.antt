use Rattle.std.proofs.Common.{◌≡◌, ◌+◌, ◌++◌, drop}
use Rattle.elf_linkable.specs.Linkable.{section_symbols}
use Rattle.elf_linkable.proofs.section.section_symbols.Given as goal

abbrev pub invariant-loop-index : goal.invariant-loop-index
invariant-loop-index l = l.symbols ++ section_symbols (l.index + 1) (drop l.index l.sections) ≡ section_symbols 1 l.sections
