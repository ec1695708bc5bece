use Rattle.std.proofs.Common.{refl}
use Rattle.mir_func.specs.Successors.{pos_in}
use Rattle.emit_code.specs.Rule.{Site, words_at}
use Rattle.emit_code.specs.steps.Emitted.{IsFormed}
use Rattle.emit_code.proofs.Emitting.{block_turn, all_more}
use Rattle.emit_code.proofs.words.push_block.Goals as goal

pub loop-index-preserved : goal.loop-index-preserved
loop-index-preserved c = record {
  forms = all_more IsFormed c.args.items.now c.loop-index.index c.index-items-index.result c.loop-index-test.true c.index-items-index.is
      c.loop-index.invariant.forms c.push_item.ensures.form;
  value = λ l b is stand.
      let k = c.loop-index.index in
      let i = c.index-items-index.result in
      let s : Site = record { point = pos_in b k; item = i } in
      block_turn (words_at l) b c.args.items.now k i c.args.words.now c.loop-index.words c.push_item.new.words c.loop-index-test.true c.index-items-index.is
      (c.loop-index.invariant.value l b is stand) (c.in_ok-push_item.ensures.value l s is (stand k i c.loop-index-test.true c.index-items-index.is) refl);
}
