use Rattle.std.proofs.Common.{◌≡◌, ◌++◌, List, reverse, nat_eq, length}
use Rattle.std.specs.HashSet.{contains}
use Rattle.mir_func.specs.declared.block.Block.{Block}
use Rattle.fold_targets.specs.Leads.{first_id}
use Rattle.fold_targets.specs.Ends.{end_in}
use Rattle.fold_rule.specs.Rule.{staying, folded_blocks}
use Rattle.fold_rule.proofs.fold.write_anew.Given as goal

abbrev pub invariant-loop-b : goal.invariant-loop-b
invariant-loop-b l = (rest : List Block) × (l.blocks.items ++ rest ≡ l.fn.blocks.items) ×
    (reverse l.done.items ≡ folded_blocks (end_in l.ends) (contains nat_eq l.stays) rest) ×
    (l.next ≡ first_id (staying (contains nat_eq l.stays) rest)) × (l.fall ≡ first_id rest)

abbrev pub decreases-loop-b : goal.decreases-loop-b
decreases-loop-b l = length l.blocks.items
