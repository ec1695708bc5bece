use Rattle.std.proofs.Common.{◌≡◌, ℕ, List, length, arith, sym, ap, ◌∙◌, subst}
use Rattle.std.specs.Prelude.{slice_get, Some}
use Rattle.std.proofs.lemmas.List.{length-map}
use Rattle.dataflow.specs.Graph.{IsGraph, IsOrder, ArePredecessors}
use Rattle.value_solver.specs.declared.entry.BlockEntry.{BlockEntry}
use Rattle.value_solver.specs.declared.flow.Flow.{Flow}
use Rattle.value_solver.specs.Hands.{ways_of}
use Rattle.value_solver.proofs.Edges.{flow_graph}
use Rattle.value_solver.proofs.Settling.{first_state, settled_is_exact}
use Rattle.value_solver.proofs.solve.solve.Goals as goal

pub predecessors-requires-clause-few : goal.predecessors-requires-clause-few
predecessors-requires-clause-few c =
    let long = ap (length {A = List ℕ}) (c.as_slice-ways.ensures.value ∙ c.in_ok-successors.ensures) ∙ length-map c.args.flows.now (λ (f : Flow). f.ways) in
    omega (arith, long, c.requires.few_blocks)

pub predecessors-requires-clause-graph : goal.predecessors-requires-clause-graph
predecessors-requires-clause-graph c =
    subst IsGraph (sym (c.as_slice-ways.ensures.value ∙ c.in_ok-successors.ensures)) (flow_graph _ c.args.flows.now c.requires.sound)

pub reverse_post_order-requires : goal.reverse_post_order-requires
reverse_post_order-requires c =
    let long = ap (length {A = List ℕ}) (c.as_slice-ways.ensures.value ∙ c.in_ok-successors.ensures) ∙ length-map c.args.flows.now (λ (f : Flow). f.ways) in
    omega (arith, long, c.requires.few_blocks)

pub settle-requires-clause-valid : goal.settle-requires-clause-valid
settle-requires-clause-valid c =
    let ways = c.as_slice-ways.ensures.value ∙ c.in_ok-successors.ensures in
    first_state _ _ _ _ _ _ (record {
      few = c.requires.few;
      some = c.requires.some;
      known = c.requires.known;
      sound = c.requires.sound;
      predecessors = subst (λ (z : List (List ℕ)). ArePredecessors (ways_of c.args.flows.now) z) (sym c.as_slice-listed.ensures.value)
          (subst (λ (z : List (List ℕ)). ArePredecessors z c.in_ok-preds.preds.items) ways c.in_ok-preds.ensures);
    }) c.in_ok-entries.ensures.long c.in_ok-dirty.ensures.long c.in_ok-entries.ensures.each c.in_ok-dirty.ensures.each

pub settle-requires-clause-order : goal.settle-requires-clause-order
settle-requires-clause-order c =
    let ways = c.as_slice-ways.ensures.value ∙ c.in_ok-successors.ensures in
    let long = ap (length {A = List ℕ}) ways ∙ length-map c.args.flows.now (λ (f : Flow). f.ways) in
    subst (λ (n : ℕ). IsOrder n c.in_ok-order.order.items) long c.in_ok-order.ensures

pub returns-clause-exact : goal.returns-clause-exact
returns-clause-exact c =
    let state = c.in_ok-sweeps.ensures.valid in
    λ g xs is flows start b e at.
    settled_is_exact _ c.args.start.now c.args.flows.now c.as_slice-listed.result.now c.settle.new.state.entries.items c.settle.new.state.dirty.items
    c.requires.sound state.problem.predecessors state c.in_ok-sweeps.ensures.closed g xs is flows start b e
    (subst (λ (z : List BlockEntry). slice_get z b ≡ Some e) c.from.ensures at)

pub returns-clause-long : goal.returns-clause-long
returns-clause-long c = ap (length {A = BlockEntry}) c.from.ensures ∙ c.in_ok-sweeps.ensures.valid.table.long

pub returns-clause-sweeps : goal.returns-clause-sweeps
returns-clause-sweeps c = omega (arith, c.in_ok-sweeps.ensures.few)
