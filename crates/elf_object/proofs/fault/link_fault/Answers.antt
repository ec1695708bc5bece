use Rattle.elf_object.specs.FirstFault.{link_fault}
use Rattle.elf_object.proofs.fault.link_fault.Goals as goal

pub returns : goal.returns
unfolding link_fault
returns c = c.constants.ensures
