use Rattle.std.proofs.Common.{◌≡◌, ◌+◌, drop}
use Rattle.std.specs.Prelude.{count_by}
use Rattle.scan_liveness.specs.scan_allocation.Allocation.{is_left}
use Rattle.scan_choice.proofs.choice.count_left.Given as goal

abbrev pub invariant-loop-a : goal.invariant-loop-a
invariant-loop-a l = l.count + count_by is_left (drop l.a-index l.assignments) ≡ count_by is_left l.assignments
