use Rattle.std.proofs.Common.{◌≤◌, ℕ}
use Rattle.scan_liveness.specs.scan_allocation.declared.assignment.RegisterAssignment.{RegisterAssignment}
use Rattle.scan_choice.proofs.Entered.{among, entered_begins, entered_goes_on}
use Rattle.scan_choice.proofs.given.put_all.Goals as goal

pub loop-last-init : goal.loop-last-init
loop-last-init c = entered_begins c.args.assignments.now c.args.given.now.items c.requires.none

pub put-requires-clause-low : goal.put-requires-clause-low
put-requires-clause-low c =
    among (λ (a : RegisterAssignment). 32 ≤ a.register) c.loop-last.invariant c.in-Some.rest.now c.in-Some.last.now c.in-Some.ensures.cases.0
    c.requires.low

pub put-requires-clause-few : goal.put-requires-clause-few
put-requires-clause-few c = c.loop-last.invariant.few

pub loop-last-preserved : goal.loop-last-preserved
loop-last-preserved c =
    entered_goes_on c.loop-last.invariant c.in-Some.rest.now c.in-Some.last.now c.in-Some.ensures.cases.0 c.put.new.given.items c.in_ok-put.ensures.few
    c.in_ok-put.ensures.at c.in_ok-put.ensures.others
