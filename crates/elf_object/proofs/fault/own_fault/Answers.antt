use Rattle.elf_object.specs.FirstFault.{own_fault}
use Rattle.elf_object.proofs.fault.own_fault.Goals as goal

pub returns : goal.returns
unfolding own_fault
returns c = c.constants.ensures
