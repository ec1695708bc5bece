use Rattle.dwarf_frame.proofs.LastRow.{entry_rules}
use Rattle.dwarf_frame.proofs.rows.one_rule.Goals as goal

pub returns : goal.returns
returns c = entry_rules
