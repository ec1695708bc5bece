use Rattle.dwarf_line_table.proofs.LineTables.{tables_give_lines}
use Rattle.dwarf_line_table.proofs.laws.tables_give_lines.Goals as goal

pub returns : goal.returns
returns c = tables_give_lines
