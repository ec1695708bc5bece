use Rattle.std.proofs.Common.{◌≡◌, ℕ, ◌++◌, ◌∷◌, [], Option, Some, None, append-nil, ap, sym, ◌∙◌}
use Rattle.std.specs.List.{cons_option}
use Rattle.std.specs.Option.{option_map}
use Rattle.read_types.specs.Indices.{index_in}
use Rattle.read_types.proofs.Listing.{filter_map_turn}
use Rattle.read_types.proofs.members.parameters_in.Goals as goal
use Rattle.read_types.proofs.members.parameters_in.Goals.{in-Some+in_ok-push, in_default}

pub loop-element-preserved : goal.loop-element-preserved
loop-element-preserved c =
    let so_far = c.loop-element.indices in
    let e : Option ℕ = c.element-item.result in
    let more : c.match-index_of.indices ≡ so_far ++ cons_option (option_map (index_in c.args.nodes.now) e) [] =
    elim c.match-index_of.branch [
      | in-Some+in_ok-push w ↦
          let o : option_map (index_in c.args.nodes.now) e ≡ Some w.in-Some.index = sym w.in-Some.ensures in
          let pushed : c.match-index_of.indices ≡ so_far ++ w.in-Some.index ∷ [] = w.indices-is ∙ w.in_ok-push.ensures.ok in
          pushed ∙ ap (λ (x : Option ℕ). so_far ++ cons_option x []) (sym o)
      | in_default w ↦
          let o : option_map (index_in c.args.nodes.now) e ≡ None = sym w.in_default.ensures in
          let same : c.match-index_of.indices ≡ so_far ++ [] = w.indices-is ∙ sym (append-nil so_far) in
          same ∙ ap (λ (x : Option ℕ). so_far ++ cons_option x []) (sym o)
    ] in
    filter_map_turn (option_map (index_in c.args.nodes.now)) c.args.elements.now c.loop-element.element-index e _ so_far c.match-index_of.indices
    c.loop-element-test.true c.element-item.is c.loop-element.invariant more
