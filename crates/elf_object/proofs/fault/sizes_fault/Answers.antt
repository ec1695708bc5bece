use Rattle.elf_object.specs.Spelling.{file_header}
use Rattle.elf_object.specs.FirstFault.{sizes_fault}
use Rattle.elf_object.proofs.fault.sizes_fault.Goals as goal

pub returns : goal.returns
unfolding sizes_fault file_header
returns c = c.constants.ensures
