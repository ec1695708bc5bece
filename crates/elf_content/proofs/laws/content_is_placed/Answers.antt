use Rattle.elf_content.proofs.Pieces.{content_placed, all_applicable, all_apart}
use Rattle.elf_content.proofs.laws.content_is_placed.Goals as goal

pub returns-clause-placed : goal.returns-clause-placed
returns-clause-placed c = content_placed

pub returns-clause-applicable : goal.returns-clause-applicable
returns-clause-applicable c = all_applicable

pub returns-clause-apart : goal.returns-clause-apart
returns-clause-apart c = all_apart
