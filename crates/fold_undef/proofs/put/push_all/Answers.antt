use Rattle.std.proofs.Common.{◌≡◌, ◌++◌, [], List, Option, append-nil, ap, sym, ◌∙◌}
use Rattle.std.specs.List.{cons_option}
use Rattle.mir_func.specs.declared.item.Item.{Item}
use Rattle.mir_func.proofs.Filtered.{filter_map_turn}
use Rattle.fold_undef.specs.declared.kill.Kill.{Kill}
use Rattle.fold_undef.specs.Kill.{kill_of}
use Rattle.fold_undef.proofs.put.push_all.Goals as goal
use Rattle.fold_undef.proofs.put.push_all.Goals.{in-Some+in_ok-push, in_default}

pub loop-i-preserved : goal.loop-i-preserved
loop-i-preserved c =
    let so_far : List Kill = c.loop-i.kills in
    let o : c.kill_of.result ≡ kill_of c.i-item.result.kind c.i-item.result.loc = c.kill_of.ensures in
    let more : c.match-kill_of.kills ≡ so_far ++ cons_option (kill_of c.i-item.result.kind c.i-item.result.loc) [] =
    elim c.match-kill_of.branch [
      | in-Some+in_ok-push w ↦ w.kills-is ∙ w.in_ok-push.ensures.ok ∙ ap (λ (x : Option Kill). so_far ++ cons_option x []) (sym w.in-Some.is ∙ o)
      | in_default w ↦ w.kills-is ∙ sym (append-nil so_far) ∙ ap (λ (x : Option Kill). so_far ++ cons_option x []) (sym w.in_default.is ∙ o)
    ] in
    filter_map_turn (λ (i : Item). kill_of i.kind i.loc) c.args.items.now c.loop-i.i-index c.i-item.result so_far c.match-kill_of.kills
    c.args.kills.now c.loop-i-test.true c.i-item.is c.loop-i.invariant more
