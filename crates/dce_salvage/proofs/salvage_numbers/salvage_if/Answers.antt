use Rattle.std.proofs.Common.{Bool, sym, ap, ◌∙◌}
use Rattle.std.proofs.lemmas.Result.{on_ok_weaker}
use Rattle.pass_salvage.specs.SalvageAction.{going_from}
use Rattle.dce_salvage.specs.SalvageNumbers.{SoFar, salvage_at}
use Rattle.dce_salvage.proofs.salvage_numbers.salvage_if.Goals as goal

pub returns-then-goes-clause-off : goal.returns-then-goes-clause-off
returns-then-goes-clause-off c =
    let a : SoFar = record { items = c.args.items.now.items; subs = c.args.subs.now; fresh = c.args.fresh.now; lost = c.args.lost.now.items } in
    on_ok_weaker c.salvage_item.result
    (λ e. e ∙ ap (λ (g : Bool). salvage_at (going_from 0 c.args.dead.now) c.args.at g a) (sym c.if-goes.true)) c.salvage_item.ensures.off

pub returns-else-goes-clause-off : goal.returns-else-goes-clause-off
returns-else-goes-clause-off c =
    let a : SoFar = record { items = c.args.items.now.items; subs = c.args.subs.now; fresh = c.args.fresh.now; lost = c.args.lost.now.items } in
    sym (ap (λ (g : Bool). salvage_at (going_from 0 c.args.dead.now) c.args.at g a) c.if-goes.false)
