use Rattle.dwarf_line_table.proofs.LineTables.{none_is_line_zero}
use Rattle.dwarf_line_table.proofs.laws.none_is_line_zero.Goals as goal

pub returns : goal.returns
returns c = none_is_line_zero
