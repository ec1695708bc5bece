use Rattle.std.proofs.Common.{◌≡◌, length, arith, ◌∙◌}
use Rattle.place_liveness.proofs.Settles.{settling_none, settling_more}
use Rattle.place_liveness.proofs.renewal.settled.Goals as goal

pub loop-block-init : goal.loop-block-init
loop-block-init c = settling_none c.args.before.now c.args.doubted.now c.args.stays.now c.in_ok-after.after.items c.in_ok-after.ensures.items

pub loop-block-preserved : goal.loop-block-preserved
loop-block-preserved c =
    settling_more c.args.before.now c.args.doubted.now c.args.stays.now c.loop-block.block c.loop-block.after.items c.push.new.self.items
    c.is_still_live.result c.is_still_live.ensures c.in_ok-push.ensures.items c.loop-block.invariant

pub returns : goal.returns
returns c =
    let all : c.loop-block.block ≡ length c.args.before.now = omega arith in
    record { long = c.loop-block.invariant.long ∙ all; each = λ b lt. c.loop-block.invariant.each b (omega (arith, lt, all)) }
