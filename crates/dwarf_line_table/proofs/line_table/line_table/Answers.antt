use Rattle.std.proofs.Common.{[], sym, subst, ◌∙◌}
use Rattle.dwarf_line_table.proofs.SourceTables.{no_further}
use Rattle.dwarf_line_table.proofs.line_table.line_table.Goals as goal

pub returns-clause-table : goal.returns-clause-table
returns-clause-table c = c.in_ok-line_table_with.ensures.table ∙ no_further c.args.meta.now c.args.functions.now
