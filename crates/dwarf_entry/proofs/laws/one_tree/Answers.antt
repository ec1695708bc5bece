use Rattle.dwarf_entry.proofs.OneTree.{one_tree_only}
use Rattle.dwarf_entry.proofs.laws.one_tree.Goals as goal

pub returns : goal.returns
returns c = one_tree_only
