use Rattle.std.proofs.Common.{◌≡◌, ◌++◌, ◌∷◌, [], Option, Some, None, append-nil, ap, sym, ◌∙◌, arith}
use Rattle.std.specs.List.{cons_option}
use Rattle.mir_func.specs.declared.item.Item.{Item}
use Rattle.mir_func.specs.Strip.{stripped_item}
use Rattle.mir_func.proofs.Filtered.{filter_map_turn}
use Rattle.mir_func.proofs.strip.strip_items.Goals as goal
use Rattle.mir_func.proofs.strip.strip_items.Goals.{in-Some+in_ok-push, in_default}

pub loop-i-preserved : goal.loop-i-preserved
loop-i-preserved c =
    let so_far = c.loop-i.stripped in
    let more : c.match-branch-2.stripped ≡ so_far ++ cons_option (stripped_item c.i-item.result) [] =
    elim c.match-branch-2.branch [
      | in-Some+in_ok-push w ↦
          let o : stripped_item c.i-item.result ≡ Some w.in-Some.s = sym c.in_ok-s.ensures ∙ w.in-Some.is in
          let pushed : c.match-branch-2.stripped ≡ so_far ++ w.in-Some.s ∷ [] = w.stripped-is ∙ w.in_ok-push.ensures.ok in
          pushed ∙ ap (λ (x : Option Item). so_far ++ cons_option x []) (sym o)
      | in_default w ↦
          let o : stripped_item c.i-item.result ≡ None = sym c.in_ok-s.ensures ∙ w.in_default.is in
          let same : c.match-branch-2.stripped ≡ so_far ++ [] = w.stripped-is ∙ sym (append-nil so_far) in
          same ∙ ap (λ (x : Option Item). so_far ++ cons_option x []) (sym o)
    ] in
    filter_map_turn stripped_item c.args.items.now c.loop-i.i-index c.i-item.result so_far c.match-branch-2.stripped []
    (omega arith) c.i-item.is c.loop-i.invariant more
