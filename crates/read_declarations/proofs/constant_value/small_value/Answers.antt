use Rattle.std.proofs.Common.{◌∙◌}
use Rattle.read_declarations.proofs.PoolEntries.{digit_more, digits_above, digits_within}
use Rattle.read_declarations.proofs.constant_value.small_value.Goals as goal

pub loop-byte-preserved : goal.loop-byte-preserved
loop-byte-preserved c =
    let more = digit_more c.args.most c.loop-byte.value c.from.result c.in-Some.next c.args.digits.now c.loop-byte.byte-index c.loop-byte-test.true
    (c.from.ensures ∙ c.digit_value.ensures.value) c.in-Some.ensures c.loop-byte.invariant.read in
    record { small = more.1; read = more.0 }

pub returns-in-None : goal.returns-in-None
returns-in-None c =
    digits_above c.args.most c.loop-byte.value c.from.result c.args.digits.now c.loop-byte.byte-index c.loop-byte-test.true
    (c.from.ensures ∙ c.digit_value.ensures.value) c.in-None.ensures c.loop-byte.invariant.read

pub returns : goal.returns
returns c = digits_within c.args.most c.loop-byte.value c.args.digits.now c.loop-byte.byte-index c.loop-byte-test.false c.loop-byte.invariant.small
    c.loop-byte.invariant.read
