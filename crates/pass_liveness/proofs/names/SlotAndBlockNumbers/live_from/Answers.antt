use Rattle.std.proofs.Common.{◌∙◌, ap}
use Rattle.rv64_instr.specs.declared.place.Place.{Place}
use Rattle.mir_func.specs.declared.exit.Exit.{Exit}
use Rattle.mir_func.specs.declared.item.Item.{Item}
use Rattle.mir_func.specs.Sound.{SlotsIn}
use Rattle.pass_liveness.specs.Sets.{has}
use Rattle.pass_liveness.specs.Walk.{live_across}
use Rattle.pass_liveness.specs.Liveness.{has_at_start}
use Rattle.pass_liveness.proofs.Walking.{walk_goes_on, item_among}
use Rattle.pass_liveness.proofs.names.SlotAndBlockNumbers.live_from.Goals as goal

pub loop-item-preserved : goal.loop-item-preserved
loop-item-preserved c =
    let slots = c.args.self.now.slots in
    let last = c.in-Some.ensures.cases.0 in
    let item = c.in-Some.item.now in
    let named = item_among (λ (i : Item). SlotsIn slots i.kind) c.args.items.now c.in-Some.rest.now c.loop-item.above.now item c.loop-item.invariant.below last
    c.loop-item.invariant.all c.requires in
    walk_goes_on c.loop-item.invariant c.in-Some.rest.now item last c.step_across.new.set c.step_up.new.set
    (λ (x : Place). c.step_across.ensures x ∙ ap (λ (e : Exit).
    live_across (has_at_start slots c.args.self.now.blocks c.args.starts.now) e (has slots c.loop-item.set x) x) c.exit.ensures)
    (c.step_up.ensures named)
