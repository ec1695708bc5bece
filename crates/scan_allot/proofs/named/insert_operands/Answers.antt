use Rattle.scan_allot.proofs.Inserted.{inserts_begin, inserts_go_on, inserts_end}
use Rattle.pass_trait.specs.Causes.{is_of_register}
use Rattle.scan_allot.proofs.named.insert_operands.Goals as goal

pub loop-operand-init : goal.loop-operand-init
loop-operand-init c = inserts_begin (is_of_register c.args.counts) c.args.operands.now c.args.named.now

pub loop-operand-preserved : goal.loop-operand-preserved
loop-operand-preserved c =
    inserts_go_on (is_of_register c.args.counts) c.args.operands.now c.args.named.now c.loop-operand.named c.loop-operand.invariant c.operand-item.result
    c.loop-operand-test.true c.operand-item.is c.insert_operand.new.named c.insert_operand.ensures

pub returns : goal.returns
returns c =
    inserts_end (is_of_register c.args.counts) c.args.operands.now c.args.named.now c.loop-operand.named c.loop-operand.invariant c.loop-operand-test.false
