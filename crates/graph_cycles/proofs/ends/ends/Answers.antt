use Rattle.std.proofs.Common.{◌≡◌, [], length, arith, sym, ◌∙◌, subst}
use Rattle.std.proofs.lemmas.List.{get_or_default}
use Rattle.dataflow.specs.Graph.{ways_at, AreBlocks, IsOrder}
use Rattle.graph_cycles.specs.steps.Search.{AreOpen}
use Rattle.graph_cycles.proofs.Searching.{last_within, all_due, popped, fewer_waiting, preds_within, ended}
use Rattle.graph_cycles.proofs.ends.ends.Goals as goal

pub loop-node-init : goal.loop-node-init
loop-node-init c =
    let s = c.in_ok-search.search in
    record {
      search = c.in_ok-visit_all.ensures.search;
      gaps = c.in_ok-visit_all.ensures.open
          (all_due c.args.successors.now s.checked.items s.marks.items s.waiting.items c.as_slice.result.now
          (subst (IsOrder (length c.args.successors.now)) (sym c.as_slice.ensures.value) c.in_ok-order.ensures));
    }

pub index-requires : goal.index-requires
index-requires c =
    let inside = last_within (length c.args.successors.now) c.loop-node.search.waiting.items c.pop.new.self.items c.in-Some.node c.in-Some.ensures.items
    c.loop-node.invariant.search.within in
    omega (arith, inside, c.in_ok-preds.ensures.long)

pub visit_all-requires-in-Some-clause-nodes : goal.visit_all-requires-in-Some-clause-nodes
visit_all-requires-in-Some-clause-nodes c =
    let preds = c.in_ok-preds.preds.items in
    let inside = last_within (length c.args.successors.now) c.loop-node.search.waiting.items c.pop.new.self.items c.in-Some.node c.in-Some.ensures.items
    c.loop-node.invariant.search.within in
    let at : c.as_slice-in-Some.result.now ≡ ways_at preds c.in-Some.node =
    c.as_slice-in-Some.ensures ∙ c.index.ensures ∙ get_or_default preds c.in-Some.node _ [] (omega (arith, inside, c.in_ok-preds.ensures.long)) in
    subst (AreBlocks (length c.args.successors.now)) (sym at) (preds_within c.args.successors.now preds c.in-Some.node c.in_ok-preds.ensures)

pub visit_all-requires-in-Some-clause-search : goal.visit_all-requires-in-Some-clause-search
visit_all-requires-in-Some-clause-search c =
    let s = c.loop-node.search in
    fewer_waiting c.args.successors.now s.checked.items s.marks.items s.order.items s.waiting.items c.pop.new.self.items c.in-Some.node c.in-Some.ensures.items
    c.loop-node.invariant.search

pub loop-node-preserved : goal.loop-node-preserved
loop-node-preserved c =
    let s = c.loop-node.search in
    let preds = c.in_ok-preds.preds.items in
    let rest = c.pop.new.self.items in
    let inside = last_within (length c.args.successors.now) s.waiting.items rest c.in-Some.node c.in-Some.ensures.items
    c.loop-node.invariant.search.within in
    let at : c.as_slice-in-Some.result.now ≡ ways_at preds c.in-Some.node =
    c.as_slice-in-Some.ensures ∙ c.index.ensures ∙ get_or_default preds c.in-Some.node _ [] (omega (arith, inside, c.in_ok-preds.ensures.long)) in
    record {
      search = c.in_ok-visit_all-2.ensures.search;
      gaps = c.in_ok-visit_all-2.ensures.open
          (subst (AreOpen c.args.successors.now s.checked.items s.marks.items rest) (sym at)
          (popped c.args.successors.now s.checked.items s.marks.items s.waiting.items rest preds c.in-Some.node c.in-Some.ensures.items
          c.in_ok-preds.ensures c.loop-node.invariant.gaps));
    }

pub returns-clause-marks : goal.returns-clause-marks
returns-clause-marks c =
    let s = c.loop-node.search in
    ended c.args.successors.now s.checked.items s.marks.items s.order.items s.waiting.items none c.requires.graph
    c.loop-node.invariant.search c.loop-node.invariant.gaps
  where
    none : c.loop-node.search.waiting.items ≡ []
    none = grind arith
