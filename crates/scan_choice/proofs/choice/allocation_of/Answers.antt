use Rattle.std.proofs.Common.{◌≡◌, ℕ, ◌≤◌, List, All, Option, Bool, sym, ap, ◌∙◌, subst}
use Rattle.scan_liveness.specs.pass_trait.Causes.{scratch_of}
use Rattle.scan_liveness.specs.scan_intervals.declared.interval.LiveInterval.{LiveInterval}
use Rattle.scan_liveness.specs.scan_intervals.Blocked.{AreBlocked}
use Rattle.scan_liveness.specs.scan_intervals.Intervals.{is_clear}
use Rattle.scan_liveness.specs.scan_intervals.Points.{CodePoint}
use Rattle.scan_liveness.specs.scan_allocation.declared.assignment.RegisterAssignment.{RegisterAssignment}
use Rattle.scan_liveness.specs.scan_allocation.Allocation.{stays, given_unless}
use Rattle.scan_liveness.specs.scan_allocation.Walk.{order_without, walk}
use Rattle.scan_choice.specs.Given.{given_by}
use Rattle.scan_choice.proofs.Chosen.{all_virtual, chosen}
use Rattle.scan_choice.proofs.choice.allocation_of.Goals as goal

pub table_of-requires : goal.table_of-requires
table_of-requires c =
    subst (All (λ (a : RegisterAssignment). 32 ≤ a.register)) (sym c.as_slice-5.ensures)
    (all_virtual c.args.reserve.now c.args.f.now c.in_ok-liveness.liveness.intervals c.in_ok-liveness.liveness.blocked.masks.items c.in_ok-liveness.ensures
    c.in_ok-order.order (c.in_ok-order.ensures.order ∙ ap (order_without c.args.reserve.now) (c.as_slice.ensures ∙ c.in_ok-scratch.ensures))
    c.in_ok-assignments.assignments
    (λ points are. c.in_ok-assignments.ensures points are ∙
    (λ t. walk (is_clear points) (c.as_slice-2.ensures t) (λ r. 0) (c.as_slice-3.ensures t))))

pub returns-clause-allocation : goal.returns-clause-allocation
returns-clause-allocation c =
    chosen c.args.reserve.now c.args.f.now c.in_ok-liveness.liveness.intervals c.in_ok-liveness.liveness.blocked.masks.items c.in_ok-liveness.ensures
    c.in_ok-order.order (c.in_ok-order.ensures.order ∙ ap (order_without c.args.reserve.now) (c.as_slice.ensures ∙ c.in_ok-scratch.ensures))
    c.in_ok-assignments.assignments
    (λ points are. c.in_ok-assignments.ensures points are ∙
    (λ t. walk (is_clear points) (c.as_slice-2.ensures t) (λ r. 0) (c.as_slice-3.ensures t)))
    c.in_ok-given.given.items c.in_ok-stays.stays (c.in_ok-stays.ensures ∙ ap (stays c.args.f.now) c.as_slice-4.ensures)
    (λ r. c.in_ok-given.ensures.table r ∙ ap (λ (xs : List RegisterAssignment). given_unless c.in_ok-stays.stays xs r) c.as_slice-5.ensures)
