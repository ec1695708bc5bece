use Rattle.std.proofs.Common.{arith}
use Rattle.frame_lowering.proofs.Turns.{slots_next}
use Rattle.frame_lowering.proofs.places.slot_places.Goals as goal

pub loop-slot-preserved : goal.loop-slot-preserved
loop-slot-preserved c =
    let at = c.loop-slot.invariant.1 in (
      slots_next c.args.slots.now c.loop-slot.slot-index c.slot-item.result c.loop-slot.offset c.loop-slot.places c.push.new.self (omega arith)
          c.slot-item.is c.loop-slot.invariant.0 at c.in_ok-push.ensures.ok,
      omega (arith, at),
    )
