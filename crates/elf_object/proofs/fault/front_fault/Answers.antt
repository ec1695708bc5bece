use Rattle.elf_object.specs.Spelling.{file_header}
use Rattle.elf_object.specs.FirstFault.{front_fault}
use Rattle.elf_object.proofs.fault.front_fault.Goals as goal

pub returns : goal.returns
unfolding front_fault file_header
returns c = c.constants.ensures
