use Rattle.elf_object.proofs.FoundSections.{found_section, found_count}
use Rattle.elf_object.proofs.laws.sections_are_found.Goals as goal

pub returns-clause-sections : goal.returns-clause-sections
returns-clause-sections c = found_section

pub returns-clause-count : goal.returns-clause-count
returns-clause-count c = found_count
