use Rattle.std.proofs.Common.{arith}
use Rattle.frame_lowering.proofs.Turns.{saved_next}
use Rattle.frame_lowering.proofs.places.saved_places.Goals as goal

pub loop-register-preserved : goal.loop-register-preserved
loop-register-preserved c =
    let at = c.loop-register.invariant.1 in (
      saved_next c.args.from c.args.registers.now c.loop-register.register-index c.register-item.result c.loop-register.offset c.loop-register.places
          c.push.new.self (omega arith) c.register-item.is c.loop-register.invariant.0 at c.in_ok-push.ensures.ok,
      omega (arith, at),
    )
