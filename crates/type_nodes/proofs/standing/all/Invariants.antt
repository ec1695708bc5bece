use Rattle.std.proofs.Common.{◌≡◌, ℕ, ◌<◌, ◌&&◌, length}
use Rattle.graph_cycles.specs.Ends.{is_marked}
use Rattle.type_nodes.proofs.standing.all.Given as goal

abbrev pub invariant-loop-i : goal.invariant-loop-i
invariant-loop-i l = record {
  long : length l.marks.items ≡ l.i;
  each : (n : ℕ) → n < l.i → is_marked l.marks.items n ≡ (is_marked l.a n && is_marked l.b n && is_marked l.c n);
}
