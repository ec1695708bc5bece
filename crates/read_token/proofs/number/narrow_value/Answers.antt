use Rattle.std.proofs.Common.{arith}
use Rattle.read_token.proofs.Numbers.{one_digit, wide, all_read}
use Rattle.read_token.proofs.number.narrow_value.Goals as goal

pub returns-in_default : goal.returns-in_default
returns-in_default c =
    wide c.args.base c.loop-byte.value c.digit_value.result c.args.digits.now c.loop-byte.byte-index c.requires c.loop-byte-test.true
    c.digit_value.ensures.value (omega (arith, c.in_default.ensures)) c.loop-byte.invariant.read

pub loop-byte-preserved : goal.loop-byte-preserved
loop-byte-preserved c =
    let next = c.in-Some.ensures in
    rw (next.1) record {
      small = next.0;
      read = one_digit c.args.base c.loop-byte.value c.digit_value.result c.args.digits.now c.loop-byte.byte-index c.loop-byte-test.true
          c.digit_value.ensures.value c.loop-byte.invariant.read;
    }

pub returns : goal.returns
returns c =
    all_read c.args.base c.loop-byte.value c.args.digits.now c.loop-byte.byte-index c.loop-byte-test.false c.loop-byte.invariant.small
    c.loop-byte.invariant.read
