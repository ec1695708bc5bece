use Rattle.std.proofs.Common.{subst}
use Rattle.location_ranges.specs.declared.transfer_tracker.TransferTracker.{TransferTracker}
use Rattle.location_ranges.specs.Stands.{Stays}
use Rattle.location_ranges.proofs.transfer_tracker.move_to.Goals as goal

pub returns-clause-stays : goal.returns-clause-stays
returns-clause-stays c = λ block item.
    subst (λ (s : TransferTracker). Stays s c.advance.new.self) (c.in_ok-stand.ensures.same block item) c.in_ok-advance.ensures.stays
