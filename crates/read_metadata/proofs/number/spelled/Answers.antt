use Rattle.std.proofs.Common.{arith}
use Rattle.read_metadata.proofs.Numbers.{above, all_read}
use Rattle.read_metadata.proofs.number.spelled.Goals as goal

pub returns-then-value-gt-MAX_NUMBER : goal.returns-then-value-gt-MAX_NUMBER
returns-then-value-gt-MAX_NUMBER c =
    above c.args.base c.loop-byte.value c.digit_value.result c.args.digits.now c.loop-byte.byte-index c.requires.positive c.loop-byte-test.true
    c.digit_value.ensures.value (omega (arith, c.if-value-gt-MAX_NUMBER.true, c.from.ensures)) c.loop-byte.invariant.read

pub returns : goal.returns
returns c =
    all_read c.args.base c.loop-byte.value c.args.digits.now c.loop-byte.byte-index c.loop-byte-test.false c.loop-byte.invariant.small
    c.loop-byte.invariant.read
