use Rattle.elf_linkable.proofs.Counting.{table_linked, names_linked}
use Rattle.elf_linkable.proofs.laws.links_are_right.Goals as goal

pub returns-clause-table : goal.returns-clause-table
returns-clause-table c = table_linked

pub returns-clause-names : goal.returns-clause-names
returns-clause-names c = names_linked
