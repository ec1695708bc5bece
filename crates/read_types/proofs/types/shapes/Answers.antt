use Rattle.std.proofs.Common.{◌≡◌, ℕ, ◌<◌, List, ◌++◌, ◌∷◌, [], length, get_or, Option, Some, None, append-nil, ap, subst, sym, ◌∙◌}
use Rattle.std.specs.List.{cons_option}
use Rattle.type_nodes.specs.declared.shape.Shape.{Shape}
use Rattle.read_types.specs.Shapes.{shape_at}
use Rattle.read_types.proofs.Listing.{filter_map_turn}
use Rattle.read_types.proofs.types.shapes.Goals as goal
use Rattle.read_types.proofs.types.shapes.Goals.{in-Some+in_ok-push, in_default}

pub loop-node-preserved : goal.loop-node-preserved
loop-node-preserved c =
    let m = c.args.m.now in
    let ns = c.args.nodes.now in
    let so_far = c.loop-node.types in
    let n : ℕ = c.node-item.result in
    let more : c.match-branch-2.types ≡ so_far ++ cons_option (shape_at m ns n) [] =
    elim c.match-branch-2.branch [
      | in-Some+in_ok-push w ↦
          let o : shape_at m ns n ≡ Some w.in-Some.shape = sym c.in_ok-shape.ensures ∙ w.in-Some.is in
          let pushed : c.match-branch-2.types ≡ so_far ++ w.in-Some.shape ∷ [] = w.types-is ∙ w.in_ok-push.ensures.ok in
          pushed ∙ ap (λ (x : Option Shape). so_far ++ cons_option x []) (sym o)
      | in_default w ↦
          let o : shape_at m ns n ≡ None = sym c.in_ok-shape.ensures ∙ w.in_default.is in
          let same : c.match-branch-2.types ≡ so_far ++ [] = w.types-is ∙ sym (append-nil so_far) in
          same ∙ ap (λ (x : Option Shape). so_far ++ cons_option x []) (sym o)
    ] in
    let is : n ≡ get_or ns c.loop-node.node-index n =
    c.node-item.is ∙ ap (λ (xs : List ℕ). get_or xs c.loop-node.node-index n) c.as_slice-node-items.ensures in
    let lt : c.loop-node.node-index < length ns =
    subst (λ (xs : List ℕ). c.loop-node.node-index < length xs) c.as_slice-node-items.ensures c.loop-node-test.true in
    filter_map_turn (shape_at m ns) ns c.loop-node.node-index n n so_far c.match-branch-2.types lt is c.loop-node.invariant more
