-- The edges of the flows' graph.
use Rattle.std.proofs.Common.{◌≡◌, ℕ, zero, suc, ◌<◌, List, [], ◌∷◌, length, Some, refl, sym, subst, arith}
use Rattle.std.specs.Prelude.{slice_get, slice_index_or, Contains}
use Rattle.std.proofs.lemmas.List.{length-map}
use Rattle.std.proofs.lemmas.List.Elements.{All-map, Contains-get_or}
use Rattle.std.proofs.lemmas.Option.{slice_get-get_or}
use Rattle.dataflow.specs.Graph.{IsEdge, AreBlocks, IsGraph}
use Rattle.value_solver.specs.declared.flow.Flow.{Flow}
use Rattle.value_solver.specs.Hands.{ways_of, AreSoundFlows}

-- an edge is a way of a flow
pub edge_flow : (flows : List Flow) (b c : ℕ) → IsEdge (ways_of flows) b c → (f : Flow) × (slice_get flows b ≡ Some f) × Contains f.ways c
edge_flow [] b c (k, less, is) = absurd (omega arith)
edge_flow (f ∷ flows) zero c h = (f, refl, h)
edge_flow (f ∷ flows) (suc b) c h = edge_flow flows b c h

pub flow_edge : (flows : List Flow) (b c : ℕ) (f : Flow) → slice_get flows b ≡ Some f → Contains f.ways c → IsEdge (ways_of flows) b c
flow_edge [] b c f at h = absurd cc
flow_edge (g ∷ flows) zero c f at h = let same : g ≡ f = cc in subst (λ (z : Flow). Contains z.ways c) (sym same) h
flow_edge (g ∷ flows) (suc b) c f at h = flow_edge flows b c f at h

-- sound flows are a graph
pub flow_graph : (n : ℕ) (flows : List Flow) → AreSoundFlows n flows → IsGraph (ways_of flows)
flow_graph n flows sound =
    All-map (AreBlocks (length (ways_of flows))) (λ (f : Flow). f.ways) flows (λ k d less j e within.
    let inside : slice_index_or (slice_index_or flows k d).ways j e < length flows =
    (sound k _ (slice_get-get_or flows k d less)).1 _ (Contains-get_or (slice_index_or flows k d).ways j e within) in
    omega (arith, inside, length-map flows (λ (f : Flow). f.ways)))
