use Rattle.std.proofs.Common.{sym}
use Rattle.dwarf_line_table.proofs.Keys.{unit_number}
use Rattle.dwarf_line_table.proofs.rows.file_number.Goals as goal

pub returns-in-None-clause-number : goal.returns-in-None-clause-number
returns-in-None-clause-number c = λ more. unit_number c.args.files.now more _ c.requires.unit (sym c.in-None.ensures)
