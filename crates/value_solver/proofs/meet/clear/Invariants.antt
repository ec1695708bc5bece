use Rattle.std.proofs.Common.{◌≡◌, ◌<◌, ℕ, length}
use Rattle.std.specs.Prelude.{None, slice_index_or}
use Rattle.value_solver.proofs.meet.clear.Given as goal

abbrev pub invariant-loop-i : goal.invariant-loop-i
invariant-loop-i l = record {
  count : length l.firsts.items ≡ length l.initial.firsts.items;
  empty : (k : ℕ) → k < l.i → slice_index_or l.firsts.items k None ≡ None;
}
