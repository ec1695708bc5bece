use Rattle.std.proofs.Common.{◌≡◌, ◌||◌, List, Bool, ap, ◌∙◌}
use Rattle.mir_func.specs.declared.block.Block.{Block}
use Rattle.mir_func.specs.declared.item.Item.{Item}
use Rattle.mir_func.specs.Function.{Function}
use Rattle.pass_liveness.proofs.Places.{or_false}
use Rattle.pass_trait.specs.Causes.{names}
use Rattle.scan_debug.specs.spill_rule.steps.Any.{any_item}
use Rattle.scan_debug.proofs.spill_rule.Flat.{any_flat}
use Rattle.scan_allot.proofs.named.NamedFunction.new.Goals as goal

pub invariant_of-result : goal.invariant_of-result
invariant_of-result c r =
    c.insert_blocks.ensures r ∙
    (λ t. any_item (λ (i : Item). names r i.kind) ((c.as_slice.ensures ∙ ap (λ (g : Function). g.blocks) c.f.view_is) t) || c.new-named.ensures r t) ∙
    or_false _ ∙ any_flat (λ i. names r i.kind) c.args.f.now.blocks
