use Rattle.std.proofs.Common.{length}
use Rattle.read_line.proofs.Fronts.{no_operand, next_operand, last_operand, no_more_operands}
use Rattle.read_line.proofs.item.some_operands.Goals as goal

pub returns-in-Ok-None : goal.returns-in-Ok-None
returns-in-Ok-None c =
    no_operand (length c.args.lexemes.now) c.loop.counter c.loop.rest.now c.args.linked c.args.line.now c.loop.found _ c.loop-test.true
    (rw c.in-Ok-None.field-0-is at c.in-Ok-None.ensures) c.loop.invariant

pub returns-in-None : goal.returns-in-None
returns-in-None c =
    last_operand (length c.args.lexemes.now) c.loop.counter c.loop.rest.now c.args.linked c.args.line.now c.loop.found _ c.in-Ok-Some.operand
    c.in-Ok-Some.behind.now c.push.new.self c.loop-test.true (rw c.in-Ok-Some.field-0-is at c.in-Ok-Some.ensures) c.in-None.ensures
    c.in_ok-push-in-Ok-Some.ensures.ok c.loop.invariant

pub loop-preserved : goal.loop-preserved
loop-preserved c =
    next_operand (length c.args.lexemes.now) c.loop.counter c.loop.rest.now c.args.linked c.args.line.now c.loop.found _ c.in-Ok-Some.operand
    c.in-Ok-Some.behind.now c.in-Some.next.now c.push.new.self c.loop-test.true (rw c.in-Ok-Some.field-0-is at c.in-Ok-Some.ensures) c.in-Some.ensures
    c.in_ok-push-in-Ok-Some.ensures.ok c.loop.invariant

pub returns : goal.returns
returns c =
    no_more_operands (length c.args.lexemes.now) c.loop.counter c.loop.rest.now c.args.linked c.args.line.now c.loop.found _ c.loop-test.false
    c.loop.invariant
