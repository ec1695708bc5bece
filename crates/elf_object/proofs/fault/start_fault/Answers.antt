use Rattle.elf_object.specs.FirstFault.{start_fault}
use Rattle.elf_object.proofs.fault.start_fault.Goals as goal

pub returns : goal.returns
unfolding start_fault
returns c = c.constants.ensures
