use Rattle.dwarf_line_table.proofs.LineTables.{unit_is_file_one}
use Rattle.dwarf_line_table.proofs.laws.unit_is_file_one.Goals as goal

pub returns : goal.returns
returns c = unit_is_file_one
