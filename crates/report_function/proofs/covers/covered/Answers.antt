use Rattle.std.proofs.Common.{arith}
use Rattle.report_function.proofs.Before.{counts_more, first_some}
use Rattle.report_function.proofs.covers.covered.Goals as goal

pub words_in-total-requires-clause-some : goal.words_in-total-requires-clause-some
words_in-total-requires-clause-some c =
    first_some c.args.ranges.now c.loop-range.range-index c.range-item.result c.loop-range-test.true c.range-item.is c.loop-range.invariant.ascend

pub overflow_add-total : goal.overflow_add-total
overflow_add-total c =
    let k = counts_more c.args.base c.args.count c.loop-range.total c.args.ranges.now c.loop-range.range-index c.range-item.result _ c.loop-range-test.true
    c.range-item.is
    c.loop-range.invariant.ascend c.loop-range.invariant.room c.loop-range.invariant.sum in
    omega (arith, k.few, c.words_in-total.ensures.value, c.requires.count)

pub loop-range-preserved : goal.loop-range-preserved
loop-range-preserved c =
    let k = counts_more c.args.base c.args.count c.loop-range.total c.args.ranges.now c.loop-range.range-index c.range-item.result _ c.loop-range-test.true
    c.range-item.is
    c.loop-range.invariant.ascend c.loop-range.invariant.room c.loop-range.invariant.sum in
    record {
      ascend = k.ascend;
      room = omega (arith, k.room, c.words_in-total.ensures.value);
      sum = omega (arith, k.sum, c.words_in-total.ensures.value);
    }
