use Rattle.std.proofs.Common.{◌+◌, ◌*◌, sym, arith}
use Rattle.read_declarations.proofs.PoolEntries.{within_none, within_some}
use Rattle.read_declarations.proofs.constant_value.next_value.Goals as goal

pub returns-then-most-digit : goal.returns-then-most-digit
returns-then-most-digit c = sym (within_none c.args.most (c.args.value * 10 + c.args.digit) (omega (arith, c.if-most-digit.true)))

pub returns-then-left-value : goal.returns-then-left-value
returns-then-left-value c =
    sym (within_none c.args.most (c.args.value * 10 + c.args.digit) (omega (arith, c.if-most-digit.false, c.if-left-value.true)))

pub returns : goal.returns
returns c = sym (within_some c.args.most (c.args.value * 10 + c.args.digit) (omega (arith, c.if-most-digit.false, c.if-left-value.false)))
