use Rattle.std.proofs.Common.{◌≡◌, ◌<◌, ◌++◌, List, length, get_or, sym, subst, ap, ◌∙◌}
use Rattle.std.specs.Prelude.{slice_index}
use Rattle.std.specs.List.{flat_map}
use Rattle.mir_func.specs.declared.block.Block.{Block}
use Rattle.mir_func.specs.declared.item.Item.{Item}
use Rattle.emit_code.specs.Rule.{entries_at, sites_in}
use Rattle.emit_code.specs.steps.Emitted.{AllStandAt}
use Rattle.emit_code.proofs.Emitting.{all_turn, all_stand}
use Rattle.emit_code.proofs.entries.entries.Goals as goal

pub loop-index-preserved : goal.loop-index-preserved
loop-index-preserved c = λ l is same.
    let k = c.loop-index.index in
    let b = c.index-blocks-index.result in
    let lt : k < length l.framed.blocks = subst (λ (t : List Block). k < length t) (sym same) c.loop-index-test.true in
    let at : b ≡ get_or l.framed.blocks k b = subst (λ (t : List Block). b ≡ get_or t k b) (sym same) c.index-blocks-index.is in
    let stand : AllStandAt l c.args.plan.now (slice_index c.args.plan.now.table.firsts k) k c.as_slice.result.now =
    subst (λ (xs : List Item). AllStandAt l c.args.plan.now (slice_index c.args.plan.now.table.firsts k) k xs) (sym c.as_slice.ensures) (all_stand l
    c.args.plan.now is k b lt at) in
    all_turn (entries_at l) c.args.blocks.now k b c.loop-index.entries c.push_block.new.entries c.loop-index-test.true c.index-blocks-index.is
    (c.loop-index.invariant l is same)
    (c.in_ok-push_block.ensures l stand ∙ ap (λ (xs : List Item). c.loop-index.entries ++ flat_map (entries_at l) (sites_in k 0 xs)) c.as_slice.ensures)
