use Rattle.elf_object.proofs.OneTable.{one_relocations, one_symbols}
use Rattle.elf_object.proofs.laws.one_table.Goals as goal

pub returns-clause-relocations : goal.returns-clause-relocations
returns-clause-relocations c = one_relocations

pub returns-clause-symbols : goal.returns-clause-symbols
returns-clause-symbols c = one_symbols
