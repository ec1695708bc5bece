use Rattle.std.proofs.Common.{List, nat_eq, subst}
use Rattle.std.specs.HashSet.{contains}
use Rattle.mir_func.specs.declared.block.Block.{Block}
use Rattle.fold_targets.specs.Ends.{end_in}
use Rattle.fold_rule.specs.Rule.{AreFolded}
use Rattle.fold_pass.proofs.Folding.{made_losses}
use Rattle.fold_pass.proofs.fold.fold_copy.Goals as goal

pub returns-clause-folded : goal.returns-clause-folded
returns-clause-folded c =
    let made : List Block = c.fold_blocks.new.blocks.items in
    made_losses c.args.before.now c.put_kills.new.after.items c.in_ok-losses.losses made (end_in c.in_ok-ways.ways.ends)
    (contains nat_eq c.in_ok-ways.ways.reached) (subst (λ (z : List Block). AreFolded z made) c.requires.copied c.in_ok-fold_blocks.ensures)
    c.in_ok-ways.ensures.ends c.in_ok-ways.ensures.reached c.in_ok-put_kills.ensures c.in_ok-losses.ensures.ordered c.in_ok-losses.ensures.each
