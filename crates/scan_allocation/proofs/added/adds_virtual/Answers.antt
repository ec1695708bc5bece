use Rattle.std.proofs.Common.{◌&&◌, ap, ◌∙◌}
use Rattle.mir_func.specs.Function.{Function}
use Rattle.mir_func.specs.declared.item.Item.{Item}
use Rattle.spill_select.specs.spill_rule.Choice.{is_added}
use Rattle.spill_select.specs.spill_rule.steps.Any.{any_item}
use Rattle.spill_select.proofs.spill_rule.Flat.{any_flat}
use Rattle.scan_allocation.specs.Allocation.{names_virtual}
use Rattle.scan_allocation.proofs.added.adds_virtual.Goals as goal

pub returns : goal.returns
returns c =
    c.adds_any.ensures ∙
    ap (any_item (λ (i : Item). is_added i.origin && names_virtual i.kind)) (c.as_slice.ensures ∙ ap (λ (g : Function). g.blocks) c.f.view_is) ∙
    any_flat (λ i. is_added i.origin && names_virtual i.kind) c.args.f.now.blocks
