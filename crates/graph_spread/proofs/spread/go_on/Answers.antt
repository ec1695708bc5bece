use Rattle.std.proofs.Common.{◌≡◌, [], ℕ, List, Bool, true, ◌∙◌, subst, arith}
use Rattle.std.specs.Prelude.{Contains}
use Rattle.std.proofs.lemmas.List.{get_or_default}
use Rattle.std.proofs.lemmas.Result.{on_ok_weaker}
use Rattle.dataflow.specs.Graph.{ways_at, AreBlocks}
use Rattle.graph_spread.specs.Spread.{Reaching}
use Rattle.graph_spread.proofs.spread.go_on.Goals as goal

pub cross_all-requires-clause-from : goal.cross_all-requires-clause-from
cross_all-requires-clause-from g c = omega (arith, c.requires.node, c.requires.nodes)

pub cross_all-requires-clause-nodes : goal.cross_all-requires-clause-nodes
cross_all-requires-clause-nodes g c =
    let at = c.as_slice-beside.ensures ∙ c.index-ways-node.is in
    subst (λ (n : ℕ). AreBlocks n c.as_slice-beside.result.now) c.requires.nodes
    (rw at (c.requires.graph c.args.node c.index-ways-node.result c.requires.node))

pub cross_all-requires-clause-long : goal.cross_all-requires-clause-long
cross_all-requires-clause-long g c = c.requires.long ∙ c.requires.nodes

pub returns : goal.returns
returns g c =
    let passes : ℕ → ℕ → Bool = g.C.Crossing.passes c.args.crossing.now in
    let at : c.as_slice-beside.result.now ≡ ways_at c.args.ways.now c.args.node =
    c.as_slice-beside.ensures ∙ c.index-ways-node.is ∙ get_or_default c.args.ways.now c.args.node _ [] c.requires.node in
    on_ok_weaker c.cross_all.result
    (λ r. subst (λ (ns : List ℕ). Reaching (λ n. Contains ns n × (passes c.args.node n ≡ true)) c.args.reached.now.items c.cross_all.new.reached.items
    c.args.waiting.now.items c.cross_all.new.waiting.items) at r)
    c.cross_all.ensures
