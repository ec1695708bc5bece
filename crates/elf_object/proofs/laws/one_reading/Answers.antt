use Rattle.elf_object.proofs.OneReading.{one_object}
use Rattle.elf_object.proofs.laws.one_reading.Goals as goal

pub returns : goal.returns
returns c = one_object
