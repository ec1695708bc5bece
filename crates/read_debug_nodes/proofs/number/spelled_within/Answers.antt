use Rattle.std.proofs.Common.{arith}
use Rattle.read_debug_nodes.proofs.Numbers.{above, all_read}
use Rattle.read_debug_nodes.proofs.number.spelled_within.Goals as goal

pub returns-then-value-limit-clause-value : goal.returns-then-value-limit-clause-value
returns-then-value-limit-clause-value c =
    above c.args.base c.args.most c.loop-byte.value c.digit_value.result c.args.digits.now c.loop-byte.byte-index c.requires.positive c.loop-byte-test.true
    c.digit_value.ensures.value (omega (arith, c.if-value-limit.true)) c.loop-byte.invariant.read

pub returns-clause-value : goal.returns-clause-value
returns-clause-value c =
    all_read c.args.base c.args.most c.loop-byte.value c.args.digits.now c.loop-byte.byte-index c.loop-byte-test.false c.loop-byte.invariant.small
    c.loop-byte.invariant.read
