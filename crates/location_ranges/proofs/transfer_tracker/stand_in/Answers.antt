use Rattle.std.proofs.Common.{◌≡◌}
use Rattle.std.specs.Prelude.{true}
use Rattle.location_ranges.proofs.transfer_tracker.stand_in.Goals as goal

pub returns-then-is_onward-clause-item : goal.returns-then-is_onward-clause-item
returns-then-is_onward-clause-item c = (c.is_onward.ensures.0 c.if-is_onward.true).1

pub returns-then-is_onward-clause-block : goal.returns-then-is_onward-clause-block
returns-then-is_onward-clause-block c = (c.is_onward.ensures.0 c.if-is_onward.true).0

pub returns-clause-same : goal.returns-clause-same
returns-clause-same c = λ block item.
    absurd (let on : c.is_onward.result ≡ true = c.is_onward.ensures.1 (block, item) in let off = c.if-is_onward.false in cc)
