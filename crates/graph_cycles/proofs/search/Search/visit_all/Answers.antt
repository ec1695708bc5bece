use Rattle.std.proofs.Common.{◌+◌, arith, drop, ◌∙◌, subst}
use Rattle.std.proofs.lemmas.List.{drop_more, drop_all}
use Rattle.graph_cycles.specs.steps.Search.{AreOpen}
use Rattle.graph_cycles.proofs.search.Search.visit_all.Goals as goal

pub loop-node-preserved : goal.loop-node-preserved
loop-node-preserved c = record {
  search = c.in_ok-visit.ensures.search;
  gaps = λ all. c.in_ok-visit.ensures.open (drop (c.loop-node.node-index + 1) c.args.nodes.now)
      (subst (AreOpen c.args.successors.now c.loop-node.self.checked.items c.loop-node.self.marks.items c.loop-node.self.waiting.items)
      (drop_more c.args.nodes.now c.loop-node.node-index 0 c.loop-node-test.true) (c.loop-node.invariant.gaps all));
  left = c.in_ok-visit.ensures.left ∙ c.loop-node.invariant.left;
}

pub returns-clause-open : goal.returns-clause-open
returns-clause-open c = λ all.
    subst (AreOpen c.args.successors.now c.loop-node.self.checked.items c.loop-node.self.marks.items c.loop-node.self.waiting.items)
    (drop_all c.loop-node.node-index c.args.nodes.now (omega (arith, c.loop-node-test.false))) (c.loop-node.invariant.gaps all)
