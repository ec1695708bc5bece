use Rattle.std.proofs.Common.{◌≡◌, ◌<◌, ◌++◌, List, ℕ, length, get_or, sym, subst, ap, ◌∙◌}
use Rattle.std.specs.Prelude.{All}
use Rattle.std.specs.List.{flat_map}
use Rattle.mir_func.specs.declared.block.Block.{Block}
use Rattle.mir_func.specs.declared.item.Item.{Item}
use Rattle.emit_code.specs.Rule.{words_at, sites_in}
use Rattle.emit_code.specs.steps.Emitted.{AllStandAt, IsFormed}
use Rattle.emit_code.proofs.Emitting.{all_turn, all_stand, all_more}
use Rattle.emit_code.proofs.words.words.Goals as goal

pub loop-index-preserved : goal.loop-index-preserved
loop-index-preserved c = record {
  forms = all_more (λ (x : Block). All IsFormed x.items) c.args.blocks.now c.loop-index.index c.index-blocks-index.result c.loop-index-test.true
      c.index-blocks-index.is c.loop-index.invariant.forms (subst (All IsFormed) c.as_slice.ensures c.in_ok-push_block.ensures.forms);
  value = λ l is same.
      let k = c.loop-index.index in
      let b = c.index-blocks-index.result in
      let lt : k < length l.framed.blocks = subst (λ (t : List Block). k < length t) (sym same) c.loop-index-test.true in
      let at : b ≡ get_or l.framed.blocks k b = subst (λ (t : List Block). b ≡ get_or t k b) (sym same) c.index-blocks-index.is in
      let stand : AllStandAt l c.args.plan.now c.first.result k c.as_slice.result.now =
      subst (λ (xs : List Item). AllStandAt l c.args.plan.now c.first.result k xs) (sym c.as_slice.ensures)
      (subst (λ (n : ℕ). AllStandAt l c.args.plan.now n k b.items) (sym c.first.ensures) (all_stand l c.args.plan.now is k b lt at)) in
      all_turn (words_at l) c.args.blocks.now k b c.loop-index.words c.push_block.new.words c.loop-index-test.true c.index-blocks-index.is
      (c.loop-index.invariant.value l is same)
      (c.in_ok-push_block.ensures.value l k is stand ∙ ap (λ (xs : List Item). c.loop-index.words ++
      flat_map (words_at l) (sites_in k 0 xs)) c.as_slice.ensures);
}
