use Rattle.std.proofs.Common.{ℕ, List, Bool, length, sym, subst}
use Rattle.std.proofs.lemmas.Result.{IfOk-weaker}
use Rattle.dataflow.specs.Graph.{IsGraph}
use Rattle.graph_cycles.specs.Ends.{AreEnds}
use Rattle.type_nodes.specs.declared.shape.Walk.TheVariants.{ByValue, ByName}
use Rattle.type_nodes.specs.Standing.{AreStanding}
use Rattle.type_nodes.specs.steps.Graphs.{IsGraphOf, step_ways, chain_ways, AreAll}
use Rattle.type_nodes.proofs.Chains.{is_graph, chains_inside, made_marked}
use Rattle.type_nodes.proofs.Walks.{steps_inside, all_standing}
use Rattle.type_nodes.proofs.standing.standing.Goals as goal

pub ends-requires-clause-graph : goal.ends-requires-clause-graph
ends-requires-clause-graph c =
    let types = c.args.types.now in
    subst IsGraph (sym c.as_slice.ensures.value)
    (is_graph (chain_ways (length types)) types c.in_ok-chains.chains.items c.in_ok-chains.ensures (chains_inside types))

pub ends-requires-2-clause-graph : goal.ends-requires-2-clause-graph
ends-requires-2-clause-graph c =
    let types = c.args.types.now in
    let made = c.in_ok-made.made.marks.items in
    let values = c.in_ok-by_value.by_value.items in
    let marks : AreEnds c.in_ok-chains.chains.items made = subst (λ (g : List (List ℕ)). AreEnds g made) c.as_slice.ensures.value c.in_ok-made.ensures.marks in
    let own : IsGraphOf (step_ways ByValue made) types values =
    subst (λ (m : List Bool). IsGraphOf (step_ways ByValue m) types values) c.as_slice-2.ensures.value c.in_ok-by_value.ensures in
    subst IsGraph (sym c.as_slice-3.ensures.value)
    (is_graph (step_ways ByValue made) types values own
    (steps_inside types ByValue made values own (made_marked types c.in_ok-chains.chains.items c.in_ok-chains.ensures made marks)))

pub ends-requires-3-clause-graph : goal.ends-requires-3-clause-graph
ends-requires-3-clause-graph c =
    let types = c.args.types.now in
    let made = c.in_ok-made.made.marks.items in
    let names = c.in_ok-by_name.by_name.items in
    let marks : AreEnds c.in_ok-chains.chains.items made = subst (λ (g : List (List ℕ)). AreEnds g made) c.as_slice.ensures.value c.in_ok-made.ensures.marks in
    let own : IsGraphOf (step_ways ByName made) types names =
    subst (λ (m : List Bool). IsGraphOf (step_ways ByName m) types names) c.as_slice-4.ensures.value c.in_ok-by_name.ensures in
    subst IsGraph (sym c.as_slice-5.ensures.value)
    (is_graph (step_ways ByName made) types names own
    (steps_inside types ByName made names own (made_marked types c.in_ok-chains.chains.items c.in_ok-chains.ensures made marks)))

pub returns : goal.returns
returns c =
    let types = c.args.types.now in
    let made = c.in_ok-made.made.marks.items in
    let values = c.in_ok-by_value.by_value.items in
    let names = c.in_ok-by_name.by_name.items in
    let by_value = c.in_ok-values.values.marks.items in
    let by_name = c.in_ok-names.names.marks.items in
    let marks : AreEnds c.in_ok-chains.chains.items made = subst (λ (g : List (List ℕ)). AreEnds g made) c.as_slice.ensures.value c.in_ok-made.ensures.marks in
    let value_graph : IsGraphOf (step_ways ByValue made) types values =
    subst (λ (m : List Bool). IsGraphOf (step_ways ByValue m) types values) c.as_slice-2.ensures.value c.in_ok-by_value.ensures in
    let name_graph : IsGraphOf (step_ways ByName made) types names =
    subst (λ (m : List Bool). IsGraphOf (step_ways ByName m) types names) c.as_slice-4.ensures.value c.in_ok-by_name.ensures in
    let value_ends : AreEnds values by_value = subst (λ (g : List (List ℕ)). AreEnds g by_value) c.as_slice-3.ensures.value c.in_ok-values.ensures.marks in
    let name_ends : AreEnds names by_name = subst (λ (g : List (List ℕ)). AreEnds g by_name) c.as_slice-5.ensures.value c.in_ok-names.ensures.marks in
    IfOk-weaker c.all.result (λ m. AreAll c.as_slice-6.result.now c.as_slice-7.result.now c.as_slice-8.result.now m.items) (λ m. AreStanding types m.items)
    (λ m all. all_standing types c.in_ok-chains.chains.items values names made by_value by_name m.items c.in_ok-chains.ensures marks value_graph value_ends
    name_graph name_ends
    (subst (λ (x : List Bool). AreAll x by_value by_name m.items) c.as_slice-6.ensures.value
    (subst (λ (x : List Bool). AreAll c.as_slice-6.result.now x by_name m.items) c.as_slice-7.ensures.value
    (subst (λ (x : List Bool). AreAll c.as_slice-6.result.now c.as_slice-7.result.now x m.items) c.as_slice-8.ensures.value all)))) c.all.ensures
