use Rattle.std.proofs.Common.{◌≡◌, ℕ, length, Some, []}
use Rattle.std.specs.Prelude.{slice_get, false}
use Rattle.value_solver.specs.declared.entry.BlockEntry.{BlockEntry}
use Rattle.value_solver.proofs.solve.unreached.Given as goal

abbrev pub invariant-loop : goal.invariant-loop
invariant-loop l = (length l.entries.items ≡ l.counter)
    × ((b : ℕ) (e : BlockEntry) → slice_get l.entries.items b ≡ Some e → e ≡ record { reached = false; classes = []; given = [] })
