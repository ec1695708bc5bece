use Rattle.std.proofs.Common.{◌≡◌, ℕ, ◌<◌, List, length, sym, ap, ◌∙◌, subst}
use Rattle.mir_func.specs.Function.{Function}
use Rattle.mir_func.specs.declared.block.Block.{Block}
use Rattle.dataflow.specs.Graph.{IsGraph, IsOrder}
use Rattle.pass_liveness.specs.Solving.{IsState, IsClosed}
use Rattle.pass_liveness.proofs.names.SlotAndBlockNumbers.settle.Goals as goal

pub predecessors-requires-clause-few : goal.predecessors-requires-clause-few
predecessors-requires-clause-few c = rw c.as_slice-successors.ensures.value c.in_ok-ways.ensures.few

pub predecessors-requires-clause-graph : goal.predecessors-requires-clause-graph
predecessors-requires-clause-graph c = subst IsGraph (sym c.as_slice-successors.ensures.value) c.in_ok-ways.ensures.graph

pub post_order-requires : goal.post_order-requires
post_order-requires c = rw c.as_slice-successors.ensures.value c.in_ok-ways.ensures.few

pub solve-requires-clause-valid : goal.solve-requires-clause-valid
solve-requires-clause-valid c =
    let blocks : c.as_slice-blocks.result.now ≡ c.args.f.now.blocks = c.as_slice-blocks.ensures ∙ ap (λ (g : Function). g.blocks) c.f.view_is in
    subst (λ (bs : List Block). IsState c.args.self.now.slots c.args.self.now.blocks bs c.args.starts.now.items) (sym blocks) c.requires.state

pub solve-requires-clause-order : goal.solve-requires-clause-order
solve-requires-clause-order c =
    let blocks : c.as_slice-blocks.result.now ≡ c.args.f.now.blocks = c.as_slice-blocks.ensures ∙ ap (λ (g : Function). g.blocks) c.f.view_is in
    let long = ap (length {A = List ℕ}) c.as_slice-successors.ensures.value ∙ (c.in_ok-ways.ensures.long ∙ sym (ap (length {A = Block}) blocks)) in
    subst (λ (n : ℕ). IsOrder n c.in_ok-order.order.items) long c.in_ok-order.ensures

pub solve-requires-clause-long : goal.solve-requires-clause-long
solve-requires-clause-long c =
    let blocks : c.as_slice-blocks.result.now ≡ c.args.f.now.blocks = c.as_slice-blocks.ensures ∙ ap (λ (g : Function). g.blocks) c.f.view_is in
    let long = ap (length {A = List ℕ}) c.as_slice-successors.ensures.value ∙ (c.in_ok-ways.ensures.long ∙ sym (ap (length {A = Block}) blocks)) in
    ap (length {A = List ℕ}) c.as_slice-dependents.ensures.value ∙ (c.in_ok-preds.ensures.long ∙ long)

pub returns-clause-state : goal.returns-clause-state
returns-clause-state c =
    let blocks : c.as_slice-blocks.result.now ≡ c.args.f.now.blocks = c.as_slice-blocks.ensures ∙ ap (λ (g : Function). g.blocks) c.f.view_is in
    subst (λ (bs : List Block). IsState c.args.self.now.slots c.args.self.now.blocks bs c.solve.new.state.items) blocks c.in_ok-took.ensures.valid

pub returns-clause-closed : goal.returns-clause-closed
returns-clause-closed c =
    let blocks : c.as_slice-blocks.result.now ≡ c.args.f.now.blocks = c.as_slice-blocks.ensures ∙ ap (λ (g : Function). g.blocks) c.f.view_is in
    subst (λ (bs : List Block). (b : ℕ) → b < length bs → IsClosed c.args.self.now.slots c.args.self.now.blocks bs c.solve.new.state.items b) blocks
    c.in_ok-took.ensures.closed
