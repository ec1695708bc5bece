use Rattle.std.proofs.Common.{◌≡◌, ℕ, ◌++◌, ◌∷◌, [], Option, Some, None, append-nil, ap, sym, ◌∙◌}
use Rattle.std.specs.List.{cons_option}
use Rattle.type_nodes.specs.declared.shape.Member.{Member}
use Rattle.read_types.specs.Parts.{member_at}
use Rattle.read_types.proofs.Listing.{filter_map_turn}
use Rattle.read_types.proofs.members.members_in.Goals as goal
use Rattle.read_types.proofs.members.members_in.Goals.{in-Some+in_ok-push, in_default}

pub loop-element-preserved : goal.loop-element-preserved
loop-element-preserved c =
    let so_far = c.loop-element.members in
    let e : Option ℕ = c.element-item.result in
    let more : c.match-branch-2.members ≡ so_far ++ cons_option (member_at c.args.m.now c.args.nodes.now e) [] =
    elim c.match-branch-2.branch [
      | in-Some+in_ok-push w ↦
          let o : member_at c.args.m.now c.args.nodes.now e ≡ Some w.in-Some.member = sym c.in_ok-member.ensures ∙ w.in-Some.is in
          let pushed : c.match-branch-2.members ≡ so_far ++ w.in-Some.member ∷ [] = w.members-is ∙ w.in_ok-push.ensures.ok in
          pushed ∙ ap (λ (x : Option Member). so_far ++ cons_option x []) (sym o)
      | in_default w ↦
          let o : member_at c.args.m.now c.args.nodes.now e ≡ None = sym c.in_ok-member.ensures ∙ w.in_default.is in
          let same : c.match-branch-2.members ≡ so_far ++ [] = w.members-is ∙ sym (append-nil so_far) in
          same ∙ ap (λ (x : Option Member). so_far ++ cons_option x []) (sym o)
    ] in
    filter_map_turn (member_at c.args.m.now c.args.nodes.now) c.args.elements.now c.loop-element.element-index e _ so_far c.match-branch-2.members
    c.loop-element-test.true c.element-item.is c.loop-element.invariant more
