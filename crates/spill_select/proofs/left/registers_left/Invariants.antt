use Rattle.std.proofs.Common.{◌≡◌, take}
use Rattle.std.specs.List.{filter_map}
use Rattle.spill_rule.specs.Choice.{homes_of}
use Rattle.spill_select.specs.Incoming.{is_among}
use Rattle.spill_select.specs.Left.{loss_for, why_left}
use Rattle.spill_select.proofs.left.registers_left.Given as goal

abbrev pub invariant-loop-r : goal.invariant-loop-r
invariant-loop-r l =
    l.losses ≡ filter_map (λ r. loss_for r (why_left l.f (is_among l.incoming) (homes_of l.reserve (is_among l.incoming) l.f) r)) (take l.r-index l.reserve)
