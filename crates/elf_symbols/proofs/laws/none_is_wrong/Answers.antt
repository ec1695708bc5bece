use Rattle.elf_symbols.proofs.RightSymbols.{no_first_fault}
use Rattle.elf_symbols.proofs.RelocationLemmas.{no_part}
use Rattle.elf_symbols.proofs.laws.none_is_wrong.Goals as goal

pub returns-clause-symbols : goal.returns-clause-symbols
returns-clause-symbols c = no_first_fault

pub returns-clause-relocations : goal.returns-clause-relocations
returns-clause-relocations c = no_part
