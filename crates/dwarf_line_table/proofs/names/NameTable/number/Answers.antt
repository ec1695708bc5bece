use Rattle.std.proofs.Common.{sym}
use Rattle.dwarf_line_table.proofs.Keys.{name_known, name_number}
use Rattle.dwarf_line_table.proofs.names.NameTable.number.Goals as goal

pub returns-clause-known : goal.returns-clause-known
returns-clause-known c = name_known _ _ _ _ _ (sym c.self.view_is) c.in_ok-index.ensures.keys c.in_ok-from_slice.ensures.items

pub returns-clause-number : goal.returns-clause-number
returns-clause-number c = λ more.
    name_number _ _ _ _ _ more c.in_ok-index.ensures.keys c.in_ok-from_slice.ensures.items c.in_ok-index.ensures.index
