use Rattle.read_item.proofs.Operands.{definitions-none, definitions-some, definitions-end}
use Rattle.read_item.proofs.operand.definitions.Goals as goal

pub returns-in-None : goal.returns-in-None
returns-in-None c =
    definitions-none c.loop-register.operands c.args.registers.now c.loop-register.register-index c.register-item.result _ c.loop-register-test.true
    c.register-item.is c.in-None.ensures c.loop-register.invariant

pub loop-register-preserved : goal.loop-register-preserved
loop-register-preserved c =
    rw c.in_ok-push-in-Some.ensures.ok (definitions-some c.loop-register.operands c.args.registers.now c.loop-register.register-index c.register-item.result
    c.in-Some.operand _ c.loop-register-test.true c.register-item.is c.in-Some.ensures c.loop-register.invariant)

pub returns : goal.returns
returns c = definitions-end c.loop-register.operands c.args.registers.now c.loop-register.register-index _ c.loop-register-test.false c.loop-register.invariant
