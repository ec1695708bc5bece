use Rattle.std.proofs.Common.{◌≡◌, ◌+◌, ◌++◌, drop}
use Rattle.elf_linkable.specs.Linkable.{relocation_sections}
use Rattle.elf_linkable.proofs.tables.push_relocations.Given as goal

abbrev pub invariant-loop-index : goal.invariant-loop-index
invariant-loop-index l =
    l.out ++ relocation_sections l.table (l.index + 1) (drop l.index l.sections) ≡ l.fn.out ++ relocation_sections l.table 1 l.sections
