use Rattle.scan_allocation.proofs.Walked.{loop_begins, loop_goes_on, loop_ends}
use Rattle.scan_allocation.proofs.walk.assign_all.Goals as goal

pub loop-i-init : goal.loop-i-init
loop-i-init c = loop_begins c.args.blocked.now.masks.items c.args.order.now c.requires.physical c.args.assignments.now c.args.intervals.now c.requires.none

pub loop-i-preserved : goal.loop-i-preserved
loop-i-preserved c =
    loop_goes_on c.args.blocked.now.masks.items c.args.order.now c.requires.physical c.loop-i.assignments c.assign.new.assignments c.args.intervals.now
    c.loop-i.i-index c.i-item.result c.loop-i.free c.assign.new.free _ c.loop-i-test.true c.i-item.is c.in_ok-assign.ensures.assigned
    c.in_ok-assign.ensures.held c.loop-i.invariant

pub returns : goal.returns
returns c = loop_ends c.args.blocked.now.masks.items c.args.order.now c.requires.physical c.loop-i.assignments c.loop-i.free c.args.intervals.now
    c.loop-i.i-index c.loop-i-test.false c.loop-i.invariant
