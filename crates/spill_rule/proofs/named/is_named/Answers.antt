use Rattle.std.proofs.Common.{ap, ◌∙◌}
use Rattle.mir_func.specs.Function.{Function}
use Rattle.mir_func.specs.declared.item.Item.{Item}
use Rattle.pass_trait.specs.Causes.{names}
use Rattle.spill_rule.specs.steps.Any.{any_item}
use Rattle.spill_rule.proofs.Flat.{any_flat}
use Rattle.spill_rule.proofs.named.is_named.Goals as goal

pub returns : goal.returns
returns c =
    let r = c.args.r in
    c.names_any.ensures ∙ ap (any_item (λ (i : Item). names r i.kind)) (c.as_slice.ensures ∙ ap (λ (g : Function). g.blocks) c.f.view_is) ∙
    any_flat (λ i. names r i.kind) c.args.f.now.blocks
