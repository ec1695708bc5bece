use Rattle.std.proofs.Common.{◌≡◌, ◌∷◌, ◌<◌, [], ℕ, List, length, true, false, arith, sym, ap, ◌∙◌, subst, length-append}
use Rattle.std.specs.Prelude.{slice_set}
use Rattle.std.proofs.lemmas.List.{get_or_default}
use Rattle.dataflow.specs.Graph.{ways_at}
use Rattle.graph_cycles.specs.Ends.{is_marked}
use Rattle.graph_cycles.specs.steps.Search.{count_at, IsFirstUnmarked, AreOpen}
use Rattle.graph_cycles.proofs.Searching.{fewer, first_of, visited, open_skipped, open_counted, open_marked}
use Rattle.graph_cycles.proofs.search.Search.visit.Goals as goal

pub returns-then-index-clause-open : goal.returns-then-index-clause-open
returns-then-index-clause-open c = λ due opens.
    let s = c.args.self.now in
    let inside : c.args.node < length s.marks.items = omega (arith, c.requires.node, c.requires.search.long) in
    let is : is_marked s.marks.items c.args.node ≡ true =
    sym (c.index.ensures ∙ get_or_default s.marks.items c.args.node _ false inside) ∙ c.if-index.true in
    open_skipped c.args.successors.now s.checked.items s.marks.items s.waiting.items due c.args.node is opens

pub returns-in_ok-push-2-clause-search : goal.returns-in_ok-push-2-clause-search
returns-in_ok-push-2-clause-search c =
    let successors = c.args.successors.now in
    let s = c.args.self.now in
    let ways : c.as_slice-ways.result.now ≡ ways_at successors c.args.node =
    c.as_slice-ways.ensures ∙ c.index-successors-node.is ∙ get_or_default successors c.args.node _ [] c.requires.node in
    let start : c.index-2.result.now ≡ count_at s.checked.items c.args.node =
    c.index-2.ensures ∙ get_or_default s.checked.items c.args.node _ 0 (omega (arith, c.requires.node, c.requires.search.counts)) in
    let first : IsFirstUnmarked (ways_at successors c.args.node) s.marks.items (count_at s.checked.items c.args.node) c.first_unmarked-count.result =
    first_of (ways_at successors c.args.node) c.as_slice-ways.result.now s.marks.items c.as_slice.result.now (count_at s.checked.items c.args.node)
    c.index-2.result.now c.first_unmarked-count.result ways c.as_slice.ensures.value start c.first_unmarked-count.ensures in
    let inside : c.args.node < length s.marks.items = omega (arith, c.requires.node, c.requires.search.long) in
    let none : is_marked s.marks.items c.args.node ≡ false =
    sym (c.index.ensures ∙ get_or_default s.marks.items c.args.node _ false inside) ∙ c.if-index.false in
    visited successors s.checked.items s.marks.items s.order.items s.waiting.items c.push.new.self.items c.push-then-count-ways.new.self.items c.args.node
    c.first_unmarked-count.result c.requires.search c.requires.node none first (omega (arith, c.if-count-ways.true, ap length ways))
    c.in_ok-push.ensures.items c.in_ok-push-2.ensures.items

pub returns-in_ok-push-2-clause-open : goal.returns-in_ok-push-2-clause-open
returns-in_ok-push-2-clause-open c = λ due opens.
    let successors = c.args.successors.now in
    let s = c.args.self.now in
    let checked = slice_set s.checked.items c.args.node c.first_unmarked-count.result in
    subst (λ (w : List ℕ). AreOpen successors checked (slice_set s.marks.items c.args.node true) w due)
    (sym c.in_ok-push-2.ensures.items)
    (open_marked successors s.checked.items s.marks.items s.waiting.items due c.args.node c.first_unmarked-count.result
    (omega (arith, c.requires.node, c.requires.search.long)) opens)

pub returns-in_ok-push-2-clause-left : goal.returns-in_ok-push-2-clause-left
returns-in_ok-push-2-clause-left c =
    let s = c.args.self.now in
    let inside : c.args.node < length s.marks.items = omega (arith, c.requires.node, c.requires.search.long) in
    let none : is_marked s.marks.items c.args.node ≡ false =
    sym (c.index.ensures ∙ get_or_default s.marks.items c.args.node _ false inside) ∙ c.if-index.false in
    omega (arith, fewer s.marks.items c.args.node inside none, ap length c.in_ok-push-2.ensures.items, length-append s.waiting.items (c.args.node ∷ []))

pub returns-else-count-ways-clause-open : goal.returns-else-count-ways-clause-open
returns-else-count-ways-clause-open c = λ due opens.
    let successors = c.args.successors.now in
    let s = c.args.self.now in
    let ways : c.as_slice-ways.result.now ≡ ways_at successors c.args.node =
    c.as_slice-ways.ensures ∙ c.index-successors-node.is ∙ get_or_default successors c.args.node _ [] c.requires.node in
    let inside : c.args.node < length s.checked.items = omega (arith, c.requires.node, c.requires.search.counts) in
    let start : c.index-2.result.now ≡ count_at s.checked.items c.args.node =
    c.index-2.ensures ∙ get_or_default s.checked.items c.args.node _ 0 inside in
    let first : IsFirstUnmarked (ways_at successors c.args.node) s.marks.items (count_at s.checked.items c.args.node) c.first_unmarked-count.result =
    first_of (ways_at successors c.args.node) c.as_slice-ways.result.now s.marks.items c.as_slice.result.now (count_at s.checked.items c.args.node)
    c.index-2.result.now c.first_unmarked-count.result ways c.as_slice.ensures.value start c.first_unmarked-count.ensures in
    let below : c.first_unmarked-count.result < length (ways_at successors c.args.node) =
    omega (arith, first.inside, c.if-count-ways.false, ap length ways) in
    open_counted successors s.checked.items s.marks.items s.waiting.items due c.args.node c.first_unmarked-count.result inside below (first.here below) opens
