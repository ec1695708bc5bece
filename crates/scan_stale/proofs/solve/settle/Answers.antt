use Rattle.std.proofs.Common.{ℕ, List, length, ap, ◌∙◌, subst}
use Rattle.dataflow.specs.Graph.{IsOrder}
use Rattle.scan_stale.proofs.solve.settle.Goals as goal

pub reverse_post_order-requires : goal.reverse_post_order-requires
reverse_post_order-requires c = rw c.as_slice-successors.ensures.value c.in_ok-ways.ensures.few

pub solve-requires-clause-valid : goal.solve-requires-clause-valid
solve-requires-clause-valid c = record { few = c.requires.few; real = c.requires.real; state = c.requires.state }

pub solve-requires-clause-order : goal.solve-requires-clause-order
solve-requires-clause-order c =
    let long = ap (length {A = List ℕ}) c.as_slice-successors.ensures.value ∙ c.in_ok-ways.ensures.long in
    subst (λ (n : ℕ). IsOrder n c.in_ok-order.order.items) long c.in_ok-order.ensures

pub solve-requires-clause-long : goal.solve-requires-clause-long
solve-requires-clause-long c = ap (length {A = List ℕ}) c.as_slice-successors.ensures.value ∙ c.in_ok-ways.ensures.long
