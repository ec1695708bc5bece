use Rattle.dwarf_line_table.proofs.LineTables.{nothing_outside}
use Rattle.dwarf_line_table.proofs.laws.nothing_outside.Goals as goal

pub returns : goal.returns
returns c = nothing_outside
