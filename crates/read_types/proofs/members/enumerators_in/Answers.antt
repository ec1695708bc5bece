use Rattle.std.proofs.Common.{◌≡◌, ℕ, ◌++◌, ◌∷◌, [], Option, Some, None, append-nil, ap, sym, ◌∙◌}
use Rattle.std.specs.List.{cons_option}
use Rattle.type_nodes.specs.declared.shape.Enumerator.{Enumerator}
use Rattle.read_types.specs.Parts.{enumerator_at}
use Rattle.read_types.proofs.Listing.{filter_map_turn}
use Rattle.read_types.proofs.members.enumerators_in.Goals as goal
use Rattle.read_types.proofs.members.enumerators_in.Goals.{in-Some+in_ok-push, in_default}

pub loop-element-preserved : goal.loop-element-preserved
loop-element-preserved c =
    let so_far = c.loop-element.enumerators in
    let e : Option ℕ = c.element-item.result in
    let more : c.match-branch-2.enumerators ≡ so_far ++ cons_option (enumerator_at c.args.m.now e) [] =
    elim c.match-branch-2.branch [
      | in-Some+in_ok-push w ↦
          let o : enumerator_at c.args.m.now e ≡ Some w.in-Some.enumerator = sym c.in_ok-enumerator.ensures ∙ w.in-Some.is in
          let pushed : c.match-branch-2.enumerators ≡ so_far ++ w.in-Some.enumerator ∷ [] = w.enumerators-is ∙ w.in_ok-push.ensures.ok in
          pushed ∙ ap (λ (x : Option Enumerator). so_far ++ cons_option x []) (sym o)
      | in_default w ↦
          let o : enumerator_at c.args.m.now e ≡ None = sym c.in_ok-enumerator.ensures ∙ w.in_default.is in
          let same : c.match-branch-2.enumerators ≡ so_far ++ [] = w.enumerators-is ∙ sym (append-nil so_far) in
          same ∙ ap (λ (x : Option Enumerator). so_far ++ cons_option x []) (sym o)
    ] in
    filter_map_turn (enumerator_at c.args.m.now) c.args.elements.now c.loop-element.element-index e _ so_far c.match-branch-2.enumerators
    c.loop-element-test.true c.element-item.is c.loop-element.invariant more
