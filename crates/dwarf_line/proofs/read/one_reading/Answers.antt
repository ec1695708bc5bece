use Rattle.dwarf_line.proofs.Sections.{one_table}
use Rattle.dwarf_line.proofs.read.one_reading.Goals as goal

pub returns : goal.returns
returns c = one_table
