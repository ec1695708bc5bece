use Rattle.std.proofs.Common.{◌≡◌, ◌∙◌, subst, List, Some}
use Rattle.std.specs.Prelude.{slice_get}
use Rattle.mir_func.specs.declared.block.Block.{Block}
use Rattle.mir_func.specs.declared.item.Item.{Item}
use Rattle.mir_func.specs.Sound.{AreApart, ids_of}
use Rattle.pass_liveness.specs.Liveness.{items_at}
use Rattle.pass_liveness.proofs.Ready.{past_answer}
use Rattle.pass_liveness.proofs.live.Live.live_after.Goals as goal

pub returns : goal.returns
returns c =
    let slots : c.self.inside.names.slots ≡ c.args.self.now.slots = cc in
    let ids : c.self.inside.names.blocks ≡ c.args.self.now.blocks = cc in
    let starts : c.as_slice-2.result.now ≡ c.args.self.now.starts = cc in
    let blocks : c.as_slice.result.now ≡ c.args.f.now.blocks = cc in
    let view : c.f.inside.blocks ≡ c.args.f.now.blocks = cc in
    let apart : AreApart (ids_of c.args.f.now.blocks) = subst (λ (bs : List Block). AreApart (ids_of bs)) view c.f.invariant.blocks_apart in
    past_answer c.args.f.now c.args.self.now c.requires.sets apart c.args.block c.requires.inside c.args.p c.args.item c.has.result c.requires.item
    (rw (slots, ids, starts, blocks) at (λ (i : Item) (e : slice_get (items_at c.as_slice.result.now c.args.block) c.args.item ≡ Some i).
    c.has.ensures ∙ c.live_past_item-set.ensures i c.args.p e))
