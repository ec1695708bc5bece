use Rattle.std.proofs.Common.{ℕ, ◌<◌, ◌≤◌, List, length, arith}
use Rattle.scan_liveness.specs.Described.{is_in}
use Rattle.scan_liveness.proofs.Stepped.{again, finishes_begin, finishes_go_on, finishes_end}
use Rattle.scan_liveness.proofs.extents.step_named.Goals as goal

pub loop-operand-init : goal.loop-operand-init
loop-operand-init c = finishes_begin _ c.args.operands.now c.args.extents.now.items

pub step_operand-requires : goal.step_operand-requires
step_operand-requires c = let long = c.loop-operand.invariant.long in let few = c.requires in omega (arith, long, few)

pub loop-operand-preserved : goal.loop-operand-preserved
loop-operand-preserved c =
    let slots : List ℕ = c.args.numbers.now.slots in
    finishes_go_on _ c.args.operands.now c.args.extents.now.items
    (again (is_in slots c.args.pending.now) (is_in slots c.args.before.now) (is_in slots c.args.after.now) c.args.i.now c.args.at)
    c.loop-operand.invariant c.operand-item.result c.loop-operand-test.true c.operand-item.is c.step_operand.new.extents.items
    c.step_operand.ensures.long c.step_operand.ensures.each

pub returns-clause-long : goal.returns-clause-long
returns-clause-long c = c.loop-operand.invariant.long

pub returns-clause-each : goal.returns-clause-each
returns-clause-each c k lt =
    finishes_end _ c.args.operands.now c.args.extents.now.items c.loop-operand.invariant c.loop-operand-test.false k lt
