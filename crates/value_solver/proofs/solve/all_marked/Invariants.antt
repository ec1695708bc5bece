use Rattle.std.proofs.Common.{◌≡◌, ℕ, length}
use Rattle.std.specs.Prelude.{slice_index_or, true}
use Rattle.value_solver.proofs.solve.all_marked.Given as goal

abbrev pub invariant-loop : goal.invariant-loop
invariant-loop l = (length l.dirty.items ≡ l.counter) × ((b : ℕ) → slice_index_or l.dirty.items b true ≡ true)
