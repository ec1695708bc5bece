use Rattle.std.proofs.Common.{◌≡◌, ◌+◌, ◌<◌, ℕ, List, Option, Some, length, arith, sym, ap, ◌∙◌, subst}
use Rattle.std.specs.Prelude.{slice_index_or, slice_set}
use Rattle.std.specs.List.{slice_get}
use Rattle.std.proofs.lemmas.Option.{slice_get-get_or}
use Rattle.dataflow.specs.Graph.{IsGraph}
use Rattle.graph_cycles.specs.Ends.{AreEnds, IsEndOrder}
use Rattle.type_nodes.specs.declared.shape.Shape.{Shape}
use Rattle.type_nodes.specs.Sizes.{size_by, size_at}
use Rattle.type_nodes.specs.steps.Graphs.{chain_ways}
use Rattle.type_nodes.proofs.Chains.{is_graph, chains_inside}
use Rattle.type_nodes.proofs.Ordered.{SoFar, begins, more, all_sizes}
use Rattle.type_nodes.proofs.sizes.sizes.Goals as goal

pub ends-requires-clause-graph : goal.ends-requires-clause-graph
ends-requires-clause-graph c =
    let types = c.args.types.now in
    subst IsGraph (sym c.as_slice.ensures.value)
    (is_graph (chain_ways (length types)) types c.in_ok-chains.chains.items c.in_ok-chains.ensures (chains_inside types))

pub loop-index-init : goal.loop-index-init
loop-index-init c =
    let types = c.args.types.now in
    let order = c.as_slice-order.result.now in
    subst (SoFar types order 0) (sym c.in_ok-sizes.ensures) (begins types order (length types) (omega arith))

pub loop-index-preserved : goal.loop-index-preserved
loop-index-preserved c =
    let types = c.args.types.now in
    let order = c.as_slice-order.result.now in
    let graph = c.in_ok-chains.chains.items in
    let marks = c.in_ok-made.made.marks.items in
    let k = c.loop-index.index-index in
    let sizes = c.loop-index.sizes.items in
    let ends : AreEnds graph marks = subst (λ (g : List (List ℕ)). AreEnds g marks) c.as_slice.ensures.value c.in_ok-made.ensures.marks in
    let own : IsEndOrder graph marks order =
    subst (IsEndOrder graph marks) (sym c.as_slice-order.ensures.value)
    (subst (λ (g : List (List ℕ)). IsEndOrder g marks c.in_ok-made.made.order.items) c.as_slice.ensures.value c.in_ok-made.ensures.order) in
    let inside : slice_index_or order k 0 < length types =
    omega (arith, own.within k 0 c.loop-index-test.true, c.in_ok-chains.ensures.long) in
    let shape : Shape = c.index-types-index.result in
    let here : slice_get types (slice_index_or order k 0) ≡ Some shape =
    slice_get-get_or types (slice_index_or order k 0) shape inside ∙ ap (λ (s : Shape). Some s) (sym c.index-types-index.is) in
    let size : c.size_by-size.result ≡ size_by (size_at sizes) shape =
    c.size_by-size.ensures ∙ ap (λ (xs : List (Option ℕ)). size_by (size_at xs) shape) c.as_slice-in-loop-index.ensures.value in
    subst (λ (n : Option ℕ). SoFar types order (k + 1) (slice_set sizes (slice_index_or order k 0) n)) (sym size)
    (more types order graph marks c.in_ok-chains.ensures ends own k shape sizes c.loop-index-test.true inside here c.loop-index.invariant)

pub returns : goal.returns
returns c =
    let types = c.args.types.now in
    let order = c.as_slice-order.result.now in
    let graph = c.in_ok-chains.chains.items in
    let marks = c.in_ok-made.made.marks.items in
    let ends : AreEnds graph marks = subst (λ (g : List (List ℕ)). AreEnds g marks) c.as_slice.ensures.value c.in_ok-made.ensures.marks in
    let own : IsEndOrder graph marks order =
    subst (IsEndOrder graph marks) (sym c.as_slice-order.ensures.value)
    (subst (λ (g : List (List ℕ)). IsEndOrder g marks c.in_ok-made.made.order.items) c.as_slice.ensures.value c.in_ok-made.ensures.order) in
    all_sizes types order graph marks c.in_ok-chains.ensures ends own c.loop-index.index-index c.loop-index.sizes.items
    (omega (arith, c.loop-index-test.false)) c.loop-index.invariant
