use Rattle.std.proofs.Common.{◌≡◌, ℕ, length}
use Rattle.std.specs.Prelude.{Contains}
use Rattle.dataflow.specs.Graph.{ways_at}
use Rattle.dataflow.proofs.graph.none.Given as goal

abbrev pub invariant-loop : goal.invariant-loop
invariant-loop l = (length l.preds.items ≡ l.counter) × ((c q : ℕ) → Contains (ways_at l.preds.items c) q → ⊥)
