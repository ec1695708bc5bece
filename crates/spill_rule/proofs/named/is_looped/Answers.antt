use Rattle.std.proofs.Common.{List, ap, ◌∙◌}
use Rattle.mir_func.specs.Function.{Function}
use Rattle.mir_func.specs.declared.block.Block.{Block}
use Rattle.mir_func.specs.declared.item.Item.{Item}
use Rattle.pass_trait.specs.sem_mir.InitialState.{first_of}
use Rattle.spill_rule.specs.Choice.{goes}
use Rattle.spill_rule.specs.steps.Any.{any_item}
use Rattle.spill_rule.proofs.Flat.{any_flat}
use Rattle.spill_rule.proofs.named.is_looped.Goals as goal

pub returns : goal.returns
returns c =
    let blocks = c.args.f.now.blocks in
    c.goes_to_first.ensures ∙
    ap (λ (bs : List Block). any_item (λ (i : Item). goes (first_of bs) i.kind) bs) (c.as_slice.ensures ∙ ap (λ (g : Function). g.blocks) c.f.view_is) ∙
    any_flat (λ i. goes (first_of blocks) i.kind) blocks
