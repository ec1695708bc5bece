use Rattle.elf_linkable.proofs.OneFile.{file_one}
use Rattle.elf_linkable.proofs.laws.one_file.Goals as goal

pub returns : goal.returns
returns c = file_one
