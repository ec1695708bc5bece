use Rattle.mir_func.specs.declared.item.Item.{Item}
use Rattle.mir_func.proofs.Filtered.{filter_map_turn}
use Rattle.fold_proof.specs.Lost.{loss_of}
use Rattle.fold_pass.proofs.lost.push_lost.Goals as goal

pub loop-i-preserved : goal.loop-i-preserved
loop-i-preserved c =
    filter_map_turn (λ (i : Item). loss_of c.args.reason i.kind i.origin) c.args.items.now c.loop-i.i-index c.i-item.result c.loop-i.losses.items
    c.push_loss.new.losses.items c.args.losses.now.items c.loop-i-test.true c.i-item.is c.loop-i.invariant c.in_ok-push_loss.ensures
