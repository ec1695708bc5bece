use Rattle.std.proofs.Common.{◌≡◌, ℕ, ◌<◌, ◌≤◌, true}
use Rattle.std.specs.Prelude.{slice_index_or}
use Rattle.graph_cycles.specs.Ends.{is_marked}
use Rattle.graph_cycles.proofs.search.first_unmarked.Given as goal

abbrev pub invariant-loop-k : goal.invariant-loop-k
invariant-loop-k l = (j : ℕ) → l.start ≤ j → j < l.k → is_marked l.marks (slice_index_or l.ways j 0) ≡ true
