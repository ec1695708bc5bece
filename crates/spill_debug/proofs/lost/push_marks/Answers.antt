use Rattle.std.proofs.Common.{◌≡◌, ◌++◌, [], Vec, Global, Option, append-nil, ap, sym, ◌∙◌}
use Rattle.std.specs.List.{cons_option}
use Rattle.mir_func.specs.declared.item.Item.{Item}
use Rattle.mir_func.specs.declared.position.Pos.{Pos}
use Rattle.mir_func.proofs.Filtered.{filter_map_turn}
use Rattle.spill_debug.specs.Lost.{mark_silenced}
use Rattle.spill_debug.proofs.lost.push_marks.Goals as goal
use Rattle.spill_debug.proofs.lost.push_marks.Goals.{in-Some+in_ok-push, in_default}

pub loop-i-preserved : goal.loop-i-preserved
loop-i-preserved c =
    let so_far = c.loop-i.marks.items in
    let o : c.mark_silenced.result ≡ mark_silenced c.args.s.now c.i-item.result.kind c.i-item.result.origin = c.mark_silenced.ensures in
    let more : c.match-mark_silenced.marks.items ≡ so_far ++ cons_option (mark_silenced c.args.s.now c.i-item.result.kind c.i-item.result.origin) [] =
    elim c.match-mark_silenced.branch [
      | in-Some+in_ok-push w ↦ ap (λ (v : Vec Pos Global). v.items) w.marks-is ∙ w.in_ok-push.ensures.items ∙
          ap (λ (x : Option Pos). so_far ++ cons_option x []) (sym w.in-Some.is ∙ o)
      | in_default w ↦ ap (λ (v : Vec Pos Global). v.items) w.marks-is ∙ sym (append-nil so_far) ∙
          ap (λ (x : Option Pos). so_far ++ cons_option x []) (sym w.in_default.is ∙ o)
    ] in
    filter_map_turn (λ (i : Item). mark_silenced c.args.s.now i.kind i.origin) c.args.items.now c.loop-i.i-index c.i-item.result so_far
    c.match-mark_silenced.marks.items c.args.marks.now.items c.loop-i-test.true c.i-item.is c.loop-i.invariant more
