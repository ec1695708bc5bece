use Rattle.std.proofs.Common.{◌≡◌, ◌<◌, ℕ, List, [], length, ◌∙◌, subst, arith}
use Rattle.std.specs.Prelude.{slice_index_or, Contains}
use Rattle.std.proofs.lemmas.List.Elements.{Contains-get_or}
use Rattle.std.proofs.lemmas.Option.{slice_get_within}
use Rattle.value_solver.specs.declared.flow.Flow.{Flow}
use Rattle.value_solver.specs.Hands.{ways_of}
use Rattle.std.proofs.lemmas.List.{get_or_default, length-map}
use Rattle.dataflow.specs.Graph.{ways_at, ArePredecessors}
use Rattle.value_solver.proofs.Edges.{edge_flow}
use Rattle.value_solver.proofs.visit.visit.Goals as goal

inside : (flows : List Flow) (preds : List (List ℕ)) (b : ℕ) (ps : List ℕ) (k d : ℕ) → ArePredecessors (ways_of flows) preds → ps ≡ slice_index_or preds b ps →
    b < length preds →
    k < length ps → slice_index_or ps k d < length flows
inside flows preds b ps k d a is less h =
    let p = slice_index_or ps k d in
    let same : ps ≡ ways_at preds b = is ∙ get_or_default preds b ps [] less in
    let (f, at, way) = edge_flow flows p b ((a.each b p).0 (subst (λ (z : List ℕ). Contains z p) same (Contains-get_or ps k d h))) in
    slice_get_within flows p f at

pub joined-requires-clause-within : goal.joined-requires-clause-within
joined-requires-clause-within c =
    rw c.as_slice-2.ensures (λ k d h. inside c.args.flows.now c.args.preds.now c.args.block _ k d c.requires.preds c.index-preds-block.is
    (omega (arith, c.requires.preds.long, length-map c.args.flows.now (λ (f : Flow). f.ways), c.requires.block)) h)
