use Rattle.elf_relocation.proofs.AppliedLemmas.{applied_long, outside_kept, beside_kept, fields_filled}
use Rattle.elf_relocation.proofs.laws.fields_are_filled.Goals as goal

pub returns-clause-size : goal.returns-clause-size
returns-clause-size c = applied_long

pub returns-clause-outside : goal.returns-clause-outside
returns-clause-outside c = outside_kept

pub returns-clause-beside : goal.returns-clause-beside
returns-clause-beside c = beside_kept

pub returns-clause-field : goal.returns-clause-field
returns-clause-field c = fields_filled
