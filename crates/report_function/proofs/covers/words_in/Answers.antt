use Rattle.std.proofs.Common.{arith}
use Rattle.report_function.proofs.Before.{before_grows, in_between}
use Rattle.report_function.proofs.covers.words_in.Goals as goal

pub overflow_sub-result : goal.overflow_sub-result
overflow_sub-result c =
    let r = c.args.range.now in
    let grows = before_grows c.args.base c.args.count r.lo r.hi (omega (arith, c.requires.some)) in omega
    (arith, grows, c.words_before.ensures, c.words_before-2.ensures)

pub returns-clause-value : goal.returns-clause-value
returns-clause-value c =
    let b = in_between c.args.base c.args.count c.args.range.now c.requires.some in omega (arith, b, c.words_before.ensures, c.words_before-2.ensures)
