use Rattle.elf_object.specs.FirstFault.{type_fault}
use Rattle.elf_object.proofs.fault.type_fault.Goals as goal

pub returns : goal.returns
unfolding type_fault
returns c = c.constants.ensures
