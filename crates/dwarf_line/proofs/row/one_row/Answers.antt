use Rattle.dwarf_line.proofs.LastRow.{found, last, row_at}
use Rattle.dwarf_line.proofs.row.one_row.Goals as goal

pub returns-clause-found : goal.returns-clause-found
returns-clause-found c = found

pub returns-clause-last : goal.returns-clause-last
returns-clause-last c = last

pub returns-clause-at : goal.returns-clause-at
returns-clause-at c = row_at
