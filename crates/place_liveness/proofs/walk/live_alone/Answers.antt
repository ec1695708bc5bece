use Rattle.std.proofs.Common.{◌∙◌, ap}
use Rattle.pass_liveness.specs.mir_func.declared.exit.Exit.{Exit}
use Rattle.pass_liveness.specs.Walk.{live_across}
use Rattle.place_liveness.specs.Alone.{is_target}
use Rattle.place_liveness.proofs.Walked.{walked_begins, walked_on}
use Rattle.place_liveness.proofs.walk.live_alone.Goals as goal

pub loop-item-init : goal.loop-item-init
loop-item-init c = walked_begins c.args.next c.args.place.now c.args.target.now c.args.items.now c.live_past-live.result (c.live_past-live.ensures c.args.place.now)

pub loop-item-preserved : goal.loop-item-preserved
loop-item-preserved c =
    walked_on c.loop-item.invariant c.in-Some.rest.now c.in-Some.item.now c.in-Some.ensures.cases.0 c.live_across-below.result c.live_before-live.result
    (c.live_across-below.ensures c.args.place.now ∙ ap (λ (e : Exit). live_across (λ n y. is_target c.args.target.now n) e c.loop-item.live c.args.place.now) c.exit.ensures)
    c.live_before-live.ensures
