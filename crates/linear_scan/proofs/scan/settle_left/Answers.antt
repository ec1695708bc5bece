use Rattle.std.proofs.Common.{List, sym, subst}
use Rattle.scan_pass.specs.scan_intervals.declared.interval.LiveInterval.{LiveInterval}
use Rattle.scan_settle.specs.Settled.{IsSettledWithLosses}
use Rattle.scan_settle.specs.Rule.{AreLeft}
use Rattle.scan_settle.proofs.spill_pass.Results.{if_ok}
use Rattle.linear_scan.proofs.Physical.{none_settled}
use Rattle.linear_scan.proofs.scan.settle_left.Goals as goal

pub returns-then-is_empty : goal.returns-then-is_empty
returns-then-is_empty c = none_settled c.args.f.now c.args.subs.now c.args.intervals.now c.new.result (c.is_empty.ensures.0 c.if-is_empty.true) c.new.ensures

pub settle-requires-clause-left : goal.settle-requires-clause-left
settle-requires-clause-left c = subst (AreLeft c.args.f.now) (sym c.as_slice.ensures) c.requires.left

pub returns : goal.returns
returns c =
    let f = c.args.f.now in
    if_ok c.settle.result (IsSettledWithLosses c.as_slice.result.now f c.args.subs.now c.settle.new.f) _ c.settle.ensures.settled
    (λ losses h. subst (λ (is : List LiveInterval). IsSettledWithLosses is f c.args.subs.now c.settle.new.f losses) c.as_slice.ensures h)
