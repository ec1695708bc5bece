use Rattle.std.proofs.Common.{◌≡◌, ◌^◌, ◌-◌, length, take}
use Rattle.std.specs.Prelude.{min, sum_by}
use Rattle.value_solver.specs.declared.entry.BlockEntry.{BlockEntry}
use Rattle.value_queries.proofs.machine.total.Given as goal

abbrev pub invariant-loop-entry : goal.invariant-loop-entry
invariant-loop-entry l = l.total ≡ min (sum_by (λ (e : BlockEntry). length e.classes) (take l.entry-index l.entries)) (2 ^ 64 - 1)
