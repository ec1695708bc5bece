use Rattle.std.proofs.Common.{◌<◌, List, ℕ, length, sym, subst}
use Rattle.std.proofs.lemmas.Result.{IfOk-weaker}
use Rattle.graph_spread.specs.dataflow.Graph.{IsGraph}
use Rattle.place_liveness.specs.Alone.{AreWaysDown, AreWaysUp}
use Rattle.place_liveness.proofs.Listed.{turned_up}
use Rattle.place_liveness.proofs.ways.ways_up.Goals as goal

pub predecessors-requires-clause-few : goal.predecessors-requires-clause-few
predecessors-requires-clause-few c = subst (λ (ws : List (List ℕ)). length ws < 4294967296) (sym c.as_slice.ensures.value) c.in_ok-ways.ensures.few

pub predecessors-requires-clause-graph : goal.predecessors-requires-clause-graph
predecessors-requires-clause-graph c = subst (λ (ws : List (List ℕ)). IsGraph ws) (sym c.as_slice.ensures.value) c.in_ok-ways.ensures.graph

pub returns : goal.returns
returns c =
    let down = subst (λ (ws : List (List ℕ)). AreWaysDown c.args.f.now.blocks ws) (sym c.as_slice.ensures.value) c.in_ok-ways.ensures.down in
    IfOk-weaker c.predecessors.result _ (λ up. AreWaysUp c.args.f.now.blocks up.items)
    (λ up preds. turned_up c.args.f.now.blocks c.as_slice.result.now up.items down preds) c.predecessors.ensures
