use Rattle.std.proofs.Common.{◌≡◌, take}
use Rattle.elf_object.specs.Relocations.{relocation_table}
use Rattle.elf_object.proofs.relocations.write_relocations.Given as goal

abbrev pub invariant-loop-relocation : goal.invariant-loop-relocation
invariant-loop-relocation l = l.out.items ≡ relocation_table (take l.relocation-index l.relocations)
