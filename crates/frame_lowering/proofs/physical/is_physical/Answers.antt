use Rattle.std.proofs.Common.{◌≡◌, ◌↔◌, List, subst, ap, ◌∙◌}
use Rattle.std.specs.Prelude.{IsTrue}
use Rattle.mir_func.specs.declared.block.Block.{Block}
use Rattle.mir_func.specs.Function.{Function}
use Rattle.mir_func.specs.Sound.{AllItems}
use Rattle.mir_func.specs.SoundFrame.{HasPhysical}
use Rattle.frame_lowering.proofs.physical.is_physical.Goals as goal

pub returns : goal.returns
returns c =
    let view : c.as_slice.result.now ≡ c.args.f.now.blocks = c.as_slice.ensures ∙ ap (λ (g : Function). g.blocks) c.f.view_is in
    subst (λ (bs : List Block). IsTrue c.are_blocks_physical.result ↔ AllItems (λ i. HasPhysical i.kind) bs) view c.are_blocks_physical.ensures
