use Rattle.elf_symbols.specs.FirstFault.{null_fault}
use Rattle.elf_symbols.proofs.fault.null_fault.Goals as goal

pub returns : goal.returns
unfolding null_fault
returns c = c.constants.ensures
