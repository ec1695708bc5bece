use Rattle.std.proofs.Common.{◌≡◌, ℕ, ◌<◌, length}
use Rattle.std.specs.Prelude.{slice_index_or}
use Rattle.dataflow.proofs.order.in_text_order.Given as goal

abbrev pub invariant-loop-block : goal.invariant-loop-block
invariant-loop-block l = (length l.order.items ≡ l.block) × ((k d : ℕ) → k < l.block → slice_index_or l.order.items k d ≡ k)
